-- The record by value is the record of the lists of a table, and so is what is put into a slice.
use Rattle.std.proofs.Common.{◌≡◌, refl, ℕ, ◌-◌, ◌<◌, ◌≤◌, cond, List, ◌++◌, length, replicate, Option, None, Some, ap, ◌∙◌, lt-ltb, le-ltb}
use Rattle.std.proofs.lemmas.Bool.{lt-leb}
use Rattle.std.proofs.lemmas.List.{drop-replicate}
use Rattle.model.specs.Bytes.{record_bytes, record_most}
use Rattle.model.specs.Lists.{Lists}
use Rattle.model.specs.Output.{too_short, copied_over}
use Rattle.word.specs.Place.{put}
use Rattle.word.proofs.Writes.{put_front}
use Rattle.record.specs.declared.Record.{Record}
use Rattle.record.specs.Written.{record_of}
use Rattle.record.specs.RoundTrip.{bytes_of}
use Rattle.record.proofs.Again.{bytes_are}
use Rattle.table.specs.Layout.{table_size, entries_from, zones_in, windows_in}
use Rattle.table.specs.Laws.{NoLists}

-- the record of lists, written over zeros
pub filled : (l : Lists) (out : List ℕ) (n : ℕ) → out ≡ put (replicate 962 0) 0 (record_bytes l) → n ≡ length (record_bytes l) → record { bytes = out; length = n } ≡ record_of l
unfolding record_of
filled l out n p q =
    ap (λ (x : List ℕ). record { bytes = x; length = n })
    (p ∙ put_front (replicate record_most 0) (record_bytes l) ∙ ap (λ (x : List ℕ). record_bytes l ++ x) (drop-replicate (length (record_bytes l)) record_most 0))
    ∙ ap (λ (k : ℕ). record { bytes = record_bytes l ++ replicate (record_most - length (record_bytes l)) 0; length = k }) q

-- the record's bytes and length, to the front of a slice that has room for them
abbrev pub Recorded : Record → List ℕ → Option ℕ → List ℕ → Type 0
Recorded r out answer new =
    (answer ≡ cond (too_short (length out) (bytes_of r)) None (Some r.length)) × (new ≡ cond (too_short (length out) (bytes_of r)) out (copied_over (bytes_of r) out))

module _ (l : Lists) (out : List ℕ) where
  pub no_room : length out < length (record_bytes l) → Recorded (record_of l) out None out
  no_room h = rw (bytes_are l, lt-ltb (length out) (length (record_bytes l)) h) (refl, refl)

  pub put_is : {n : ℕ} {new : List ℕ} → length (record_bytes l) ≤ length out → n ≡ length (record_bytes l) → new ≡ put out 0 (record_bytes l) → Recorded (record_of l) out (Some n) new
  unfolding record_of
  put_is h p q = rw (bytes_are l, le-ltb (length out) (length (record_bytes l)) h) (ap Some p, q ∙ put_front out (record_bytes l))

-- bytes that are no table hold empty lists
pub no_lists : NoLists
unfolding zones_in windows_in entries_from
no_lists s h = rw (lt-leb table_size (length s) h)
