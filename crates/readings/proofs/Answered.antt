-- What is read of an image, out of its table, or the refusal. The checks of the readings rewrite by these.
use Rattle.std.specs.Prelude.{option_copied}
use Rattle.std.specs.Result.{result_ok}
use Rattle.std.proofs.Common.{◌≡◌, ℕ, max, List, [], ◌∷◌, length, Option, None, Some, Result, Ok, Err, Bor, true, MatchResult, option_map, refl, sym, ap, ◌∙◌, arith}
use Rattle.model.specs.declared.Refusal.{Refusal}
use Rattle.model.specs.declared.Refusal.TheVariants.{AttributeNotFound, ConstraintError}
use Rattle.model.specs.Answers.{Answer, refused, answers}
use Rattle.model.specs.Lists.{Zone}
use Rattle.model.specs.Lookups as L
use Rattle.model.specs.Clock as C
use Rattle.model.specs.LocalTime as M
use Rattle.model.specs.Walk.{walk}
use Rattle.model.specs.Store.{Store, record_of}
use Rattle.model.specs.Handler as H
use Rattle.model.proofs.Facts.{by_test}
use Rattle.table.specs.Layout.{zone_at, window_at, zone_place, window_place, zone_count, window_count, zones_in, windows_in, lists_in, store_in}
use Rattle.table.proofs.Sections.{length_entries}
use Rattle.lookups.proofs.Views.{active_shown, zone_listed_lem, window_listed_lem}
use Rattle.lookups.specs.Shown.{shown_by, active_index, zone_listed_in, window_listed_in}
use Rattle.lookups.specs.Laws.{zone_now_in, zone_in, zone_listed_of, window_of, window_listed_of}
use Rattle.lookups.specs.declared.ZoneShown.{ZoneShown}
use Rattle.lookups.specs.declared.DSTOffsetEntry.{DSTOffsetEntry}
use Rattle.image.specs.Layout.{is_image, table_in}
use Rattle.image.specs.Parts.{has_lists, clock_in, device_in}
use Rattle.image.specs.Asked.{asked}
use Rattle.local_time.specs.Meaning.{local_time_of}
use Rattle.readings.specs.There.{table_read, told}

module _ {A : Type 0} where
  -- what is read in a table, or the refusal
  abbrev pub of_table : (List ℕ → Answer A) → Answer (List ℕ) → Answer A
  of_table found (refused cause) = refused cause
  of_table found (answers t) = found t

  -- a reading that needs the list store
  store_is : (read : Store → Answer A) (found : List ℕ → Answer A) (s : List ℕ) → ((t : List ℕ) → read (store_in t) ≡ found t)
      → asked s (H.of_lists (device_in s).store read) ≡ of_table found (table_read s)
  unfolding table_read
  store_is read found s e =
      by_test (is_image s) (λ i. by_test (has_lists s) (λ m. rw (i, m) (e (table_in s))) (λ m. rw (i, m))) (λ i. rw i)

  pub store_refused : (read : Store → Answer A) (s : List ℕ) (cause : Refusal) → table_read s ≡ refused cause → asked s (H.of_lists (device_in s).store read) ≡ refused cause
  store_refused read s cause e = store_is read (λ t. read (store_in t)) s (λ t. refl) ∙ ap (of_table (λ t. read (store_in t))) e

  store_answers : (read : Store → Answer A) (s t : List ℕ) → table_read s ≡ answers t → asked s (H.of_lists (device_in s).store read) ≡ read (store_in t)
  store_answers read s t e = store_is read (λ t. read (store_in t)) s (λ t. refl) ∙ ap (of_table (λ t. read (store_in t))) e

-- ## Numbers of the list store

-- an empty list shows one zone
length_listed : (zs : List Zone) → length (L.listed zs) ≡ max (length zs) 1
length_listed [] = omega arith
length_listed (z ∷ zs) = omega arith

listed_are : (t : List ℕ) → length (L.listed (zones_in t)) ≡ max (zone_count t) 1
unfolding zones_in
listed_are t = omega (arith, length_listed (zones_in t), length_entries (λ i. zone_at t (zone_place i)) 0 (zone_count t))

windows_are : (t : List ℕ) → length (windows_in t) ≡ window_count t
unfolding windows_in
windows_are t = length_entries (λ i. window_at t (window_place i)) 0 (window_count t)

module _ (s : List ℕ) where
  pub zones_listed_is : asked s (H.zones_listed (device_in s)) ≡ of_table (λ t. answers (max (zone_count t) 1)) (table_read s)
  unfolding H.zones_listed
  zones_listed_is = store_is _ _ s (λ t. ap answers (listed_are t))

  pub windows_listed_is : asked s (H.windows_listed (device_in s)) ≡ of_table (λ t. answers (window_count t)) (table_read s)
  unfolding H.windows_listed
  windows_listed_is = store_is _ _ s (λ t. ap answers (windows_are t))

  pub zone_limit_is : asked s (H.zone_limit_read (device_in s)) ≡ of_table (λ t. answers (store_in t).rules.zone_limit) (table_read s)
  unfolding H.zone_limit_read
  zone_limit_is = store_is _ _ s (λ t. refl)

  pub window_limit_is : asked s (H.window_limit_read (device_in s)) ≡ of_table (λ t. answers (store_in t).rules.window_limit) (table_read s)
  unfolding H.window_limit_read
  window_limit_is = store_is _ _ s (λ t. refl)

  pub database_is : asked s (H.database_read (device_in s)) ≡ of_table (λ t. answers 2) (table_read s)
  unfolding H.database_read
  database_is = store_is _ _ s (λ t. refl)

  pub generation_is : asked s (H.generation_read (device_in s)) ≡ of_table (λ t. answers (store_in t).generation) (table_read s)
  unfolding H.generation_read
  generation_is = store_is _ _ s (λ t. refl)

  pub table_empty_is : asked s (H.table_empty (device_in s)) ≡ of_table (λ t. answers (L.table_empty (lists_in t))) (table_read s)
  unfolding H.table_empty
  table_empty_is = store_is _ _ s (λ t. refl)

  pub usable_is : (now : ℕ) → asked s (H.usable (device_in s) now) ≡ of_table (λ t. answers (L.usable (lists_in t) now)) (table_read s)
  unfolding H.usable
  usable_is now = store_is _ _ s (λ t. refl)

  pub active_offset_is : (now : ℕ) → asked s (H.active_offset (device_in s) now) ≡ of_table (λ t. answers (L.active_offset (lists_in t) now)) (table_read s)
  unfolding H.active_offset
  active_offset_is now = store_is _ _ s (λ t. refl)

  pub next_transition_is : (now : ℕ) → asked s (H.next_transition (device_in s) now) ≡ of_table (λ t. answers (L.next_transition (lists_in t) now)) (table_read s)
  unfolding H.next_transition
  next_transition_is now = store_is _ _ s (λ t. refl)

  -- ## With an argument: what the table answers

  module _ (t : List ℕ) (e : table_read s ≡ answers t) where
    pub zone_none : (index : ℕ) → zone_listed_in t index ≡ None → asked s (H.zone_at (device_in s) index) ≡ refused ConstraintError
    unfolding H.zone_at
    zone_none index h = store_answers _ s t e ∙ ap H.entry_of (sym (zone_listed_lem t index) ∙ ap (zone_listed_of t) h)

    pub zone_some : (index : ℕ) (z : ZoneShown) → zone_listed_in t index ≡ Some z → asked s (H.zone_at (device_in s) index) ≡ answers (zone_in t z)
    unfolding H.zone_at
    zone_some index z h = store_answers _ s t e ∙ ap H.entry_of (sym (zone_listed_lem t index) ∙ ap (zone_listed_of t) h)

    pub window_none : (index : ℕ) → window_listed_in t index ≡ None → asked s (H.window_at (device_in s) index) ≡ refused ConstraintError
    unfolding H.window_at
    window_none index h = store_answers _ s t e ∙ ap H.entry_of (sym (window_listed_lem t index) ∙ ap window_listed_of h)

    pub window_some : (index : ℕ) (w : DSTOffsetEntry) → window_listed_in t index ≡ Some w → asked s (H.window_at (device_in s) index) ≡ answers (window_of w)
    unfolding H.window_at
    window_some index w h = store_answers _ s t e ∙ ap H.entry_of (sym (window_listed_lem t index) ∙ ap window_listed_of h)

    pub active_zone_answers : (now : ℕ) (z : ZoneShown) → z ≡ shown_by t (active_index t now) → asked s (H.active_zone (device_in s) now) ≡ answers (zone_now_in t z)
    unfolding H.active_zone
    active_zone_answers now z h = store_answers _ s t e ∙ ap answers (sym (active_shown t now) ∙ ap (zone_now_in t) (sym h))

  pub walk_is : (start : ℕ) → asked s (H.walk_read (device_in s) start) ≡ of_table (λ t. answers (walk (lists_in t) start)) (table_read s)
  unfolding H.walk_read
  walk_is start = store_is _ _ s (λ t. refl)

  pub walk_answers : (t : List ℕ) → table_read s ≡ answers t → (start : ℕ) → asked s (H.walk_read (device_in s) start) ≡ answers (walk (lists_in t) start)
  unfolding H.walk_read
  walk_answers t e start = store_answers _ s t e

  pub record_is : asked s (H.record_read (device_in s)) ≡ of_table (λ t. answers (record_of (store_in t))) (table_read s)
  unfolding H.record_read
  record_is = store_is _ _ s (λ t. refl)

-- ## Local time

-- the lists of the store, out of the table
pub local_lists : (s : List ℕ) (r : Result (Bor (List ℕ)) Refusal) → is_image s ≡ true → MatchResult r (λ t. table_read s ≡ answers t.now) (λ cause. table_read s ≡ refused cause)
    → H.lists_of (device_in s).store ≡ option_map (λ t. lists_in t) (option_copied (result_ok r))
unfolding table_read
local_lists s (Ok t) i e =
    by_test (has_lists s)
    (λ m. let q : answers (table_in s) ≡ answers t.now = rw (i, m) at e in let p : table_in s ≡ t.now = cc in rw (m, p))
    (λ m. let q : refused AttributeNotFound ≡ answers t.now = rw (i, m) at e in cc)
local_lists s (Err cause) i e =
    by_test (has_lists s)
    (λ m. let q : answers (table_in s) ≡ refused cause = rw (i, m) at e in cc)
    (λ m. rw m)

-- local time's answer means what it says
pub told_local : (r : Result (Option ℕ) Refusal) → local_time_of r ≡ told r
told_local (Ok moment) = refl
told_local (Err cause) = refl

-- an answer that is the local time of the clock's reading and of those lists
pub local_time_is : (s : List ℕ) (tick : ℕ) (u : C.Reading) (o : Option (Bor (List ℕ))) (r : Result (Bor (List ℕ)) Refusal) (a : Answer (Option ℕ)) → is_image s ≡ true
    → MatchResult r (λ t. table_read s ≡ answers t.now) (λ cause. table_read s ≡ refused cause) → o ≡ result_ok r → u ≡ C.reading (clock_in s) tick
    → a ≡ M.local_time u (option_map (λ t. lists_in t) (option_copied o)) → asked s (H.read_local_time (device_in s) tick) ≡ a
local_time_is s tick u o r a i h p q e =
    rw i (ap (M.local_time (C.reading (clock_in s) tick)) (local_lists s r i h ∙ sym (ap (λ (o : Option (Bor (List ℕ))). option_map (λ t. lists_in t) (option_copied o)) p))
    ∙ sym (ap (λ (u : C.Reading). M.local_time u (option_map (λ t. lists_in t) (option_copied o))) q) ∙ sym e)
