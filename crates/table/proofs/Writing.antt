-- Entries of some kind copied one after another to their places.
use Rattle.std.proofs.Common.{◌≡◌, ℕ, suc, ◌+◌, ◌-◌, ◌<◌, ◌≤◌, List, length, take, drop, sym, refl, ap, subst, ◌∙◌, arith, add-one}
use Rattle.std.proofs.Math.Nat.{sub-zero}
use Rattle.word.specs.Place.{placed}
use Rattle.table.specs.Layout.{put_entries}
use Rattle.table.specs.Held.{Whole, parts_from, end_of}
use Rattle.word.proofs.Frame.{length_placed}

module _ (place : ℕ → ℕ) (length_at : List ℕ → ℕ → ℕ) (s : List ℕ) (from n : ℕ) (table₀ : List ℕ) where
  -- the first i are copied, and those behind them stand at `at`
  pub record Copying (i at : ℕ) (table : List ℕ) : Type 0 where
    pub left : put_entries place (λ bs. bs) table₀ 0 (parts_from length_at s from n) ≡ put_entries place (λ bs. bs) table i (parts_from length_at s at (n - i))
    pub whole : Whole length_at s at (n - i)
    pub end : end_of length_at s from n ≡ end_of length_at s at (n - i)
    pub long : length table ≡ length table₀

  pub none_copied : Whole length_at s from n → Copying 0 from table₀
  none_copied h =
      let e = sym (sub-zero n) in
      record {
        left = ap (λ (k : ℕ). put_entries place (λ bs. bs) table₀ 0 (parts_from length_at s from k)) e;
        whole = subst (Whole length_at s from) e h;
        end = ap (end_of length_at s from) e;
        long = refl;
      }

module _ {place : ℕ → ℕ} {length_at : List ℕ → ℕ → ℕ} {s : List ℕ} {from n : ℕ} {table₀ : List ℕ} {i at : ℕ} {table : List ℕ} (w : Copying place length_at s from n table₀ i at table) where
  one_more : i < n → n - i ≡ suc (n - (i + 1))
  one_more h = omega arith

  -- the next one stands at `at`
  pub record Next : Type 0 where
    pub head : at + 13 ≤ length s
    pub whole : at + length_at s at ≤ length s

  pub next : i < n → Next
  unfolding Whole
  next h = let t = subst (Whole length_at s at) (one_more h) w.whole in record { head = t.0; whole = t.1 }

  pub one_copied : i < n → (m to : ℕ) {table' : List ℕ} → m ≡ length_at s at → to ≡ place i → table' ≡ placed table to (take (at + m - at) (drop at s))
      → Copying place length_at s from n table₀ (i + 1) (at + m) table'
  unfolding Whole parts_from end_of put_entries
  one_copied h m to {table'} c p q =
      let e = one_more h in
      let part = take (length_at s at) (drop at s) in
      let more = parts_from length_at s (at + length_at s at) (n - (i + 1)) in
      let t = subst (Whole length_at s at) e w.whole in
      let k : at + m - at ≡ length_at s at = omega arith in
      let put : table' ≡ placed table (place i) part = q ∙ ap (λ (x : ℕ). placed table to (take x (drop at s))) k ∙ ap (λ (x : ℕ). placed table x part) p in
      rw c
      (record {
        left =
            w.left ∙ ap (λ (k : ℕ). put_entries place (λ bs. bs) table i (parts_from length_at s at k)) e
            ∙ ap (λ (u : List ℕ). put_entries place (λ bs. bs) u (suc i) more) (sym put)
            ∙ ap (λ (k : ℕ). put_entries place (λ bs. bs) table' k more) (sym (add-one i));
        whole = t.2;
        end = w.end ∙ ap (end_of length_at s at) e;
        long = ap length put ∙ length_placed table (place i) part ∙ w.long;
      })

  pub all_copied : n ≤ i → (table ≡ put_entries place (λ bs. bs) table₀ 0 (parts_from length_at s from n)) × (at ≡ end_of length_at s from n)
  unfolding parts_from end_of put_entries
  all_copied h =
      let e : n - i ≡ 0 = omega arith in (
        sym (w.left ∙ ap (λ (k : ℕ). put_entries place (λ bs. bs) table i (parts_from length_at s at k)) e),
        sym (w.end ∙ ap (end_of length_at s at) e),
      )
