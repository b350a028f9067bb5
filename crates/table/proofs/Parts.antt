-- An entry part by part: its length, its mark, and that equal parts make equal entries.
use Rattle.std.specs.Prelude.{Option}
use Rattle.std.proofs.Common.{◌≡◌, ℕ, ◌+◌, true, false, not, List, ◌++◌, length, ℤ, sym, ap, ◌∙◌, arith, length-append, eq-eqb, ne_eqb}
use Rattle.model.specs.Lists.{Name, Zone, Window}
use Rattle.model.specs.Bytes.{bytes}
use Rattle.model.proofs.Words.{length_bytes}
use Rattle.word.specs.Place.{byte_at}
use Rattle.table.specs.Layout.{mark_at}

pub zone_parts : {o o' : ℤ} {t t' : ℕ} {n n' : Option Name} → o ≡ o' → t ≡ t' → n ≡ n'
    → ◌≡◌ {A = Zone} (record { offset = o; start = t; name = n }) (record { offset = o'; start = t'; name = n' })
zone_parts p q r = cc

pub window_parts : {o o' : ℤ} {t t' : ℕ} {u u' : Option ℕ} → o ≡ o' → t ≡ t' → u ≡ u'
    → ◌≡◌ {A = Window} (record { offset = o; start = t; until = u }) (record { offset = o'; start = t'; until = u' })
window_parts p q r = cc

-- offset and start have 12 bytes
pub entry_long : (o t : ℕ) (more : List ℕ) → length (bytes 4 o ++ (bytes 8 t ++ more)) ≡ 12 + length more
entry_long o t more = omega (arith, length-append (bytes 4 o) (bytes 8 t ++ more), length-append (bytes 8 t) more, length_bytes 4 o, length_bytes 8 t)

-- a mark, by the byte that was read
module _ (s : List ℕ) (at b : ℕ) (e : b ≡ byte_at s at) where
  pub mark_clear : b ≡ 0 → mark_at s at ≡ false
  mark_clear z = ap not (eq-eqb (byte_at s at) 0 (sym e ∙ z))

  pub mark_set : (b ≡ 0 → ⊥) → mark_at s at ≡ true
  mark_set z = ap not (ne_eqb (byte_at s at) 0 (λ q. z (e ∙ q)))
