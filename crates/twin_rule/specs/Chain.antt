-- The methods of a bucket as a chain, by which twins are looked for among a few methods.
-- Assumes nothing.
use Rattle.std.specs.Prelude.{ℕ, ◌+◌, ◌*◌, ◌-◌, ◌%◌, ◌≤◌, ◌<◌, ◌≡◌, List, length, get_or}
use mathlib.Core.Path.{ap}
use denote.Struct.Props.{props}
use Rattle.rules.specs.Bytes.{word}
use Rattle.rules.specs.Layout.{max_methods, method_at, method_count}

abbrev pub buckets : ℕ
buckets = 521

-- the bucket of method m: by the first four bytes of its record, which are its function and three specialisers
unfoldable pub bucket_of : List ℕ → ℕ → ℕ
bucket_of b m = (word b (method_at b m) + 65536 * word b (method_at b m + 2)) % buckets

-- e is one past the highest method below k that is in bucket h, or 0 where none is
pub record Highest (b : List ℕ) (h k e : ℕ) : Type 0 where
  pub within : e ≤ k
  pub found : 0 < e → bucket_of b (e - 1) ≡ h
  pub above : (j : ℕ) → e ≤ j → j < k → bucket_of b j ≡ h → ⊥

-- the methods below k are chained: the entry of a bucket leads to its highest, that of a method to the next lower one of its bucket, and those that are left hold 0
pub record ChainedBelow (b chains : List ℕ) (k : ℕ) : Type 0 where
  pub long : length chains ≡ buckets + max_methods
  pub begins : (h : ℕ) → h < buckets → Highest b h k (get_or chains h 0)
  pub goes_on : (m : ℕ) → m < k → Highest b (bucket_of b m) m (get_or chains (buckets + m) 0)
  pub left : (m : ℕ) → k ≤ m → m < max_methods → get_or chains (buckets + m) 0 ≡ 0

-- all of them are; a data type, so that proofs pass it on whole
pub data Chained (b chains : List ℕ) : Type 0 where
  chained : ChainedBelow b chains (method_count b) → Chained b chains

-- there is one proof of it at most, so that a value can carry it
pub Chained-prop : (b chains : List ℕ) → IsProp (Chained b chains)
Chained-prop b chains (chained x) (chained y) =
    let below : IsProp (ChainedBelow b chains (method_count b)) = hlevel props in
    ap chained (below x y)
