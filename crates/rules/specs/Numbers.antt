-- The numbers by which calls refuse and runs stop (M 11), each by its name. The header for C has the same words.
-- Assumes nothing.
use Rattle.std.specs.Prelude.{ℕ}

-- the bundle does not open
abbrev pub bad_length : ℕ
bad_length = 1

abbrev pub bad_directory : ℕ
bad_directory = 2

abbrev pub bad_counts : ℕ
bad_counts = 3

abbrev pub bad_class : ℕ
bad_class = 4

abbrev pub bad_function : ℕ
bad_function = 5

abbrev pub bad_signature : ℕ
bad_signature = 6

abbrev pub bad_method : ℕ
bad_method = 7

abbrev pub twin_method : ℕ
twin_method = 8

abbrev pub bad_code : ℕ
bad_code = 9

-- a send fails, or breaks a signature
abbrev pub no_method : ℕ
no_method = 10

abbrev pub ambiguous : ℕ
ambiguous = 11

abbrev pub narrow_declared : ℕ
narrow_declared = 12

abbrev pub wide_result : ℕ
wide_result = 13

-- a body breaks a rule
abbrev pub bad_stack : ℕ
bad_stack = 14

abbrev pub abstract_new : ℕ
abstract_new = 15

abbrev pub no_licence : ℕ
no_licence = 16

abbrev pub loose_result : ℕ
loose_result = 17

-- the call is wrong
abbrev pub absent : ℕ
absent = 18

abbrev pub short_scratch : ℕ
short_scratch = 19

abbrev pub short_buffer : ℕ
short_buffer = 20

abbrev pub not_binary : ℕ
not_binary = 21

abbrev pub no_line : ℕ
no_line = 22

abbrev pub short_line : ℕ
short_line = 23

abbrev pub no_concrete : ℕ
no_concrete = 24

-- a resend fails
abbrev pub no_overridden : ℕ
no_overridden = 25

abbrev pub ambiguous_resend : ℕ
ambiguous_resend = 26

abbrev pub narrow_target : ℕ
narrow_target = 27
