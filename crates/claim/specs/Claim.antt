-- Demand 3 at the entry points: any calls on a new image, refused ones and short slices included, at any limits, from any moment.
use Rattle.std.specs.Prelude.{true, List, ◌≡◌, ℕ, ◌+◌, ◌*◌, ◌-◌, ◌≤◌, length}
use Rattle.model.specs.Basics.{All}
use Rattle.model.specs.Lists.{Lists}
use Rattle.model.specs.Answers.{answers}
use Rattle.model.specs.Rules.{Rules, allowed}
use Rattle.model.specs.Lookups as L
use Rattle.model.specs.Walk as W
use Rattle.model.specs.Handler.{entry_of}
use Rattle.model.specs.Output.{lists_after_sized, roomy}
use Rattle.model.specs.Demand3 as D
use Rattle.model.specs.Demand3.{WalkIsWhole}
use Rattle.model.specs.RoundTrip.{IsMoment}
use Rattle.table.specs.Layout.{lists_in}
use Rattle.image.specs.Layout.{image_size, is_image, table_in}
use Rattle.readings.specs.Readings as R
use Rattle.commands.specs.Calls as C
use Rattle.claim.specs.Histories.{Entry, image_next, image_through, list_calls, EntryBytes}

-- of the image `t`, the limits `r`, the lists `l` that the rules make of the calls' arguments, and a starting moment
pub record Demand3AtEntry (r : Rules) (t : List ℕ) (l : Lists) (start : ℕ) : Type 0 where
  -- every call leaves an image, and its lists are these lists
  pub image : is_image t ≡ true
  pub lists : lists_in (table_in t) ≡ l
  -- each lookup answers on the image what is defined on `l`, or NoSpace where a slice is too short
  pub zone : (now room : ℕ) → R.active_zone t now room ≡ roomy room R.now_name (answers (L.active_zone l now))
  pub window : (now : ℕ) → R.active_offset t now ≡ answers (L.active_offset l now)
  pub usable : (now : ℕ) → R.usable t now ≡ answers (L.usable l now)
  pub table_empty : R.table_empty t ≡ answers (L.table_empty l)
  pub next : (now : ℕ) → R.next_transition t now ≡ answers (L.next_transition l now)
  pub zone_listed : (i room : ℕ) → R.zone_entry t i room ≡ roomy room R.zone_name (entry_of (L.zone_at l i))
  pub window_listed : (i : ℕ) → R.window_entry t i ≡ entry_of (L.window_at l i)
  -- so does the walk: its moments and its steps
  pub walked : (room : ℕ) → R.walked t start room ≡ roomy room R.walk_bytes (answers (W.walk l start))
  -- a step for each different later start or end
  pub steps : (W.walk l start).steps ≡ W.different_later l start
  -- and no more of them than the limits allow
  pub bound : (W.walk l start).steps ≤ r.zone_limit + 2 * r.window_limit - 1
  -- the commands accept both lists
  pub taken : D.Accepted r l
  -- at every moment the first active window is the last
  pub one : (now : ℕ) → L.active_window l now ≡ L.last_active_window l now
  -- the walk misses nothing that a reader sees
  pub whole : WalkIsWhole r l start

-- a new image in any bytes that are long enough, with a list store of any allowed limits; its mark is any number but 0
abbrev pub new_of : List ℕ → ℕ → Rules → ℕ → ℕ → List ℕ
new_of s mark r build period = (C.new s mark r.zone_limit r.window_limit build period).image

-- proved as `demand3_at_entry` in proofs/Claim.antt
abbrev pub Demand3AtEntryStands : Type 0
Demand3AtEntryStands =
    (s : List ℕ) (mark : ℕ) (r : Rules) (build period : ℕ)
    → image_size ≤ length s → (mark ≡ 0 → ⊥) → allowed r ≡ true → IsMoment build → IsMoment period
    → (calls : List Entry) → All EntryBytes calls → (start : ℕ)
    → Demand3AtEntry r (image_through (new_of s mark r build period) calls) (lists_after_sized r (list_calls calls)) start

-- every call on an image leaves one, with a list store or without, whatever its lists: `call_leaves_image` in proofs/Kept.antt
abbrev pub CallLeavesImage : Type 0
CallLeavesImage = (s : List ℕ) (e : Entry) → is_image s ≡ true → is_image (image_next s e) ≡ true
