-- Licences place by place, and the type of a send signature by signature.
-- Assumes nothing.
use Prim.Native.Nat.{ℕ, ◌+◌, ◌<◌}
use native.Mathlib.Omega.{arith}
use mathlib.Core.Path.{◌≡◌, refl, sym, ap, ◌∙◌}
use mathlib.Core.Bool.{Bool, true, false, ◌&&◌, false≢true}
use mathlib.Core.List.{List, [], ◌∷◌, ◌++◌, map}
use lib.Dec.{eqb}
use lib.ListN.{length, get_or, drop, length-map, get_or-append}
use Rattle.std.proofs.lemmas.List.{ext_get_or}
use borrow.Author.Count.{below_none, below_more}
use borrow.Author.Tests.{eq-eqb, ne_eqb}
use Rattle.rules.specs.Bounded.{upto, keep, matching}
use Rattle.rules.specs.Model.{Model}
use Rattle.rules.specs.Types.{Static, in_type, licenses, licensing, send_type}
use Rattle.rules.specs.Calls.{row_bytes, overwrite, licensed, row_on}
use Rattle.rules.specs.Bits.{bit}
use Rattle.rules.proofs.Lists.{length_upto, keep_upto_hit, keep_upto_miss, matching_at, matching_from}
use Rattle.std.specs.Prelude.{Option, Some, None, unwrap_or, replicate}
use Rattle.typing.specs.Rows.{type_byte, Joined, Rows}
use Rattle.typing.specs.Sends.{licenses_for, inhabited, Licensed, Given, Sent}
use Rattle.rules.proofs.Overwrite.{map_snoc, overwrite_at}
use Rattle.typing.proofs.Rows.{row_empty, row_joined}

-- a bit as it is asked
pub bit_zero : (t : Bool) → bit t ≡ 0 → t ≡ false
unfolding bit
bit_zero true e = absurd (omega (arith, e))
bit_zero false e = refl

pub bit_other : (t : Bool) → (bit t ≡ 0 → ⊥) → t ≡ true
unfolding bit
bit_other true h = refl
bit_other false h = absurd (h refl)

-- the types at the places before i hold the signature's classes there, whatever types the rows hold
pub record Passed (M : Model) (rows : List (List ℕ)) (f s i : ℕ) : Type 0 where
  pub each : (types : List Static) → Rows M rows types → length types ≡ M.arity f
      → (k : ℕ) → k < i → in_type M (get_or types k []) (get_or (M.sig_args s) k 0) ≡ true

module _ (M : Model) (rows : List (List ℕ)) (f s : ℕ) where
  pub passed_none : Passed M rows f s 0
  passed_none = record { each = λ types r e. below_none _ }

  -- signature s is of function f, and c is its class at place i
  module _ (i c : ℕ) (h : i < M.arity f) (e : c ≡ get_or (M.sig_args s) i 0) (l : c < row_bytes) where
    asked : (types : List Static) → Rows M rows types → length types ≡ M.arity f
        → get_or (get_or rows i []) c 0 ≡ bit (in_type M (get_or types i []) (get_or (M.sig_args s) i 0))
    unfolding type_byte
    asked types r n = (r.holds i (omega arith)).byte c l ∙ ap (λ (k : ℕ). bit (in_type M (get_or types i []) k)) e

    pub passed_more : Passed M rows f s i → (get_or (get_or rows i []) c 0 ≡ 0 → ⊥) → Passed M rows f s (i + 1)
    passed_more p z =
        record {
          each = λ types r n.
              below_more _ _ (p.each types r n)
              (bit_other (in_type M (get_or types i []) (get_or (M.sig_args s) i 0)) (λ q. z (asked types r n ∙ q)));
        }

    pub licensed_broken : length (M.sig_args s) ≡ M.arity f → get_or (get_or rows i []) c 0 ≡ 0 → Licensed M rows f s false
    unfolding licenses_for licenses
    licensed_broken m z = record { answer = λ types r n. both (eqb (M.sig_function s) f) (matching (in_type M) types (M.sig_args s)) (λ q. miss types r n q) }
      where
        miss : (types : List Static) → Rows M rows types → length types ≡ M.arity f → matching (in_type M) types (M.sig_args s) ≡ true → ⊥
        miss types r n q =
            false≢true
            (sym (bit_zero (in_type M (get_or types i []) (get_or (M.sig_args s) i 0)) (sym (asked types r n) ∙ z))
            ∙ matching_at (in_type M) types (M.sig_args s) [] 0 q i (omega arith))

        both : (p q : Bool) → (q ≡ true → ⊥) → false ≡ (p && q)
        both true true w = absurd (w refl)
        both true false w = refl
        both false q w = refl

  pub licensed_other : (M.sig_function s ≡ f → ⊥) → Licensed M rows f s false
  unfolding licenses_for
  licensed_other h = record { answer = λ types r n. rw (ne_eqb (M.sig_function s) f h) }

  pub licensed_all : M.sig_function s ≡ f → length (M.sig_args s) ≡ M.arity f → Passed M rows f s (M.arity f) → Licensed M rows f s true
  unfolding licenses_for licenses
  licensed_all e m p =
      record {
        answer = λ types r n.
            rw (eq-eqb (M.sig_function s) f e)
            (sym (matching_from (in_type M) types (M.sig_args s) [] 0 (omega arith) (λ i h. p.each types r n i (omega arith))));
      }

-- the type that the first s signatures give the send
unfoldable pub type_to : Model → ℕ → List Static → ℕ → Static
type_to M f types s = map M.sig_result (keep (licenses_for M f types) (upto s))

module _ (M : Model) (f : ℕ) (types : List Static) where
  type_to_none : type_to M f types 0 ≡ []
  unfolding type_to upto keep
  type_to_none = refl

  type_to_hit : (s : ℕ) → licenses_for M f types s ≡ true → type_to M f types (s + 1) ≡ type_to M f types s ++ (M.sig_result s ∷ [])
  unfolding type_to
  type_to_hit s e = rw (keep_upto_hit (licenses_for M f types) s e) (map_snoc M.sig_result (keep (licenses_for M f types) (upto s)) s)

  type_to_miss : (s : ℕ) → licenses_for M f types s ≡ false → type_to M f types (s + 1) ≡ type_to M f types s
  unfolding type_to
  type_to_miss s e = rw (keep_upto_miss (licenses_for M f types) s e)

  type_to_all : type_to M f types M.signatures ≡ send_type M f types
  unfolding type_to send_type licensing licenses_for
  type_to_all = refl

-- the row is that of this type, none for the empty one
pub record Sending (M : Model) (rows : List (List ℕ)) (f : ℕ) (sent : Option (List ℕ)) (s : ℕ) : Type 0 where
  pub row : (types : List Static) → Rows M rows types → length types ≡ M.arity f → Given M (type_to M f types s) sent

-- a class more in the type of the row, or in the empty type of a row of zeros
given_more : (M : Model) (t : Static) (sent : Option (List ℕ)) (next : List ℕ) (c : ℕ) → Given M t sent → Joined M c (unwrap_or sent (replicate row_bytes 0)) next → Given M (t ++ (c ∷ [])) (Some next)
unfolding Given
given_more M [] None next c g j = row_joined M [] c (replicate row_bytes 0) next (row_empty M) j
given_more M [] (Some row) next c g j = absurd g
given_more M (d ∷ t) None next c g j = absurd g
given_more M (d ∷ t) (Some row) next c g j = row_joined M (d ∷ t) c row next g j

module _ (M : Model) (rows : List (List ℕ)) (f : ℕ) where
  pub sending_none : Sending M rows f None 0
  unfolding Given
  sending_none = record { row = λ types r n. rw (type_to_none M f types) tt }

  pub sending_hit : (sent : Option (List ℕ)) (next : List ℕ) (s c : ℕ) → Sending M rows f sent s → Licensed M rows f s true → c ≡ M.sig_result s
      → Joined M c (unwrap_or sent (replicate row_bytes 0)) next → Sending M rows f (Some next) (s + 1)
  sending_hit sent next s c p a q j =
      record {
        row = λ types r n.
            rw (type_to_hit M f types s (sym (a.answer types r n)), ← q)
            (given_more M (type_to M f types s) sent next c (p.row types r n) j);
      }

  pub sending_miss : (sent : Option (List ℕ)) (s : ℕ) → Sending M rows f sent s → Licensed M rows f s false → Sending M rows f sent (s + 1)
  sending_miss sent s p a =
      record { row = λ types r n. rw (type_to_miss M f types s (sym (a.answer types r n))) (p.row types r n) }

  pub sending_all : (sent : Option (List ℕ)) → Sending M rows f sent M.signatures → Sent M rows f sent
  sending_all sent p = record { row = λ types r n. rw (type_to_all M f types) at (p.row types r n) }

-- known bytes before the others
overwrite_known : (n : ℕ) (f : ℕ → ℕ) (old xs : List ℕ) → length xs ≡ n → ((k : ℕ) → k < n → get_or xs k 0 ≡ f k)
    → xs ++ drop n old ≡ overwrite n f old
unfolding overwrite
overwrite_known n f old xs l h =
    let many : length (map f (upto n)) ≡ n = length-map (upto n) f ∙ length_upto n in
    let same : xs ≡ map f (upto n) = ext_get_or 0 xs (map f (upto n)) (l ∙ sym many) (λ k b. h k (omega arith) ∙ sym (overwrite_at n f old k (omega arith)) ∙ get_or-append (map f (upto n)) (drop n old) 0 k (omega arith)) in
    ap (λ (ys : List ℕ). ys ++ drop n old) same

-- the row that the call leaves, with a licence and without
module _ (M : Model) (row : List ℕ) where
  pub left_some : (t : Static) (sent : List ℕ) → Given M t (Some sent)
      → (true ≡ inhabited t) × (sent ++ drop row_bytes row ≡ row_on (licensed t) M row)
  unfolding Given inhabited licensed row_on type_byte
  left_some [] sent g = absurd g
  left_some (c ∷ t) sent g = (refl, overwrite_known row_bytes (λ k. bit (in_type M (c ∷ t) k)) row sent g.long g.byte)

  pub left_none : (t : Static) → Given M t None → (false ≡ inhabited t) × (row ≡ row_on (licensed t) M row)
  unfolding Given inhabited licensed row_on
  left_none [] g = (refl, refl)
  left_none (c ∷ t) g = absurd g

  pub given_long : (t : Static) (sent : List ℕ) → Given M t (Some sent) → length sent ≡ row_bytes
  unfolding Given
  given_long [] sent g = absurd g
  given_long (c ∷ t) sent g = g.long
