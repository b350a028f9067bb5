-- The bytes of a new table, and where one is made.
use Rattle.std.specs.Prelude.{Ok, Err}
use Rattle.std.proofs.Common.{◌≡◌, ℕ, ◌≤◌, Bool, true, false, ◌&&◌, leb, List, length, refl, arith, le-leb}
use Rattle.std.proofs.lemmas.List.{length-replicate}
use Rattle.model.specs.declared.Refusal.TheVariants as R
use Rattle.model.specs.Rules.{Rules, allowed}
use Rattle.table.specs.Layout.{table_size, new_bytes, new_table}
use Rattle.table.specs.Left.{makes, new_said, new_left}

-- ## A new table

pub length_new : (r : Rules) → length (new_bytes r) ≡ table_size
unfolding new_bytes
length_new r = omega (arith, length-replicate {A = ℕ} 1038 0)

module _ (s : List ℕ) (r : Rules) where
  -- limits that are not allowed make none
  pub not_allowed : allowed r ≡ false → makes s r ≡ false
  unfolding makes
  not_allowed h = rw h (go (leb table_size (length s)))
    where
      go : (b : Bool) → b && false ≡ false
      go true = refl
      go false = refl

  pub is_made : table_size ≤ length s → allowed r ≡ true → makes s r ≡ true
  unfolding makes
  is_made h a = rw (le-leb table_size (length s) h, a)

  pub none_made : makes s r ≡ false → (Err R.BadLimits ≡ new_said s r) × (s ≡ new_left s r)
  none_made e = rw e (refl, refl)

  pub one_made : (u : List ℕ) → makes s r ≡ true → u ≡ new_table s r → ((Ok tt) ≡ new_said s r) × (u ≡ new_left s r)
  one_made u e p = rw e (refl, p)
