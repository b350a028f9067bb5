-- What the calls that change an image return, leave and copy: one term for each call, whose fields its contract cites.
use Rattle.std.specs.Prelude.{Bool, not, ◌||◌, ◌&&◌, cond, List, ℕ, leb, eqb, length, Option, None, Some}
use Rattle.model.specs.declared.TimeGranularity.{TimeGranularity}
use Rattle.model.specs.declared.TimeSource.{TimeSource}
use Rattle.model.specs.declared.Refusal.TheVariants.{Unreadable, InvalidCommand, BadLimits}
use Rattle.model.specs.Numbers.{granularity_of, source_of, refusal_number}
use Rattle.model.specs.Answers.{number_of, done, TrustedSource, Result, unchanged}
use Rattle.model.specs.Codes.{returned}
use Rattle.model.specs.Rules.{allowed}
use Rattle.model.specs.Output.{copied_over, stores, leaves, truth}
use Rattle.model.specs.Clock as C
use Rattle.model.specs.Handler as H
use Rattle.model.specs.Handler.{Device, Named, of_clock}
use Rattle.table.specs.Left as T
use Rattle.image.specs.Layout.{image_size, is_image, table_in, with_table}
use Rattle.image.specs.Parts.{device_in, has_lists, with_clock, new_image}
use Rattle.image.specs.Asked.{given, asked_of, record_stored, record_roomy}

-- ## Outcomes

-- what a call returns, and the image that it leaves
pub record Called : Type 0 where
  pub returned : ℕ
  pub image : List ℕ

-- the same of a setting, which also says whether something changed
pub record Setting : Type 0 where
  pub returned : ℕ
  pub image : List ℕ
  pub changed : ℕ

-- the same of a call that stores the record: what stands in the output slice, and how many bytes of it are used
pub record Storing : Type 0 where
  pub returned : ℕ
  pub image : List ℕ
  pub out : List ℕ
  pub used : ℕ

module _ {A : Type 0} where
  -- the number of the answer and the codes of the effects
  abbrev pub returned_by : Result Device A → ℕ
  returned_by r = returned (number_of r.answer) r.effects

  -- a call on the clock writes the clock where it was taken
  abbrev pub clock_left : List ℕ → Result Device A → List ℕ
  clock_left s r = leaves r.answer (λ a. with_clock s r.state.clock) s

  abbrev pub on_clock : List ℕ → Result Device A → Called
  on_clock s r = record { returned = returned_by r; image = clock_left s r }

  abbrev pub setting_of : List ℕ → Result Device A → (A → Bool) → ℕ → Setting
  setting_of s r changed was = record { returned = returned_by r; image = clock_left s r; changed = leaves r.answer (λ a. truth (changed a)) was }

  -- what is stored is copied to the front of the slice
  abbrev pub storing : List ℕ → Result Device A → List ℕ → ℕ → Storing
  storing image r out used =
      record {
        returned = returned_by r;
        image = image;
        out = copied_over (record_stored r) out;
        used = cond (stores r.effects) (length (record_stored r)) used;
      }

-- a call on the lists changes the table, where there is a list store
abbrev pub table_left : List ℕ → List ℕ → List ℕ
table_left s t = cond (is_image s && has_lists s) (with_table s t) s

-- ## New

-- limits count only where there is to be a list store
abbrev pub makes : List ℕ → Bool → ℕ → ℕ → Bool
makes s there zones windows = (not there || allowed (record { zone_limit = zones; window_limit = windows })) && leb image_size (length s)

-- the mark of a list store is any number but 0
unfoldable pub new : List ℕ → ℕ → ℕ → ℕ → ℕ → ℕ → Called
new s mark zones windows build period =
    cond (makes s (not (eqb mark 0)) zones windows)
    (record { returned = number_of done; image = new_image s (not (eqb mark 0)) zones windows build period })
    (record { returned = refusal_number BadLimits; image = s })

-- ## Commands on the clock

unfoldable pub utc_time_set : List ℕ → ℕ → ℕ → Option ℕ → ℕ → Result Device (Unit {0})
utc_time_set s utc granularity source tick = asked_of s (H.set_utc_time_command (device_in s) utc granularity source tick)

abbrev pub set_utc_time_command : List ℕ → ℕ → ℕ → Option ℕ → ℕ → Called
set_utc_time_command s utc granularity source tick = on_clock s (utc_time_set s utc granularity source tick)

-- the fabric index is an argument, and comes before the image
unfoldable pub source_set : List ℕ → ℕ → Option Named → Result Device (Unit {0})
source_set s fabric named =
    cond (eqb fabric 0) (unchanged (device_in s) InvalidCommand) (asked_of s (H.set_trusted_time_source (device_in s) fabric named))

abbrev pub set_trusted_time_source : List ℕ → ℕ → Option Named → Called
set_trusted_time_source s fabric named = on_clock s (source_set s fabric named)

abbrev pub named_by : ℕ → ℕ → ℕ → Option Named
named_by mark node endpoint = given mark (record { node = node; endpoint = endpoint })

-- ## The clock's own setting, by the numbers of a granularity and of a source

module _ {A : Type 0} (set : C.Clock → ℕ → TimeGranularity → TimeSource → ℕ → Result C.Clock A) where
  abbrev pub set_by : Device → ℕ → Option TimeGranularity → Option TimeSource → ℕ → Result Device A
  set_by d utc None source tick = unchanged d Unreadable
  set_by d utc (Some g) None tick = unchanged d Unreadable
  set_by d utc (Some g) (Some t) tick = of_clock d (set d.clock utc g t tick)

unfoldable pub clock_set : List ℕ → ℕ → ℕ → ℕ → ℕ → Result Device Bool
clock_set s utc granularity source tick =
    asked_of s (set_by C.set_utc_time (device_in s) utc (granularity_of granularity) (source_of source) tick)

abbrev pub rtc_set : List ℕ → ℕ → ℕ → ℕ → ℕ → ℕ → Setting
rtc_set s utc granularity source tick was = setting_of s (clock_set s utc granularity source tick) (λ changed. changed) was

unfoldable pub clock_set_persist : List ℕ → ℕ → ℕ → ℕ → ℕ → Result Device C.Persisted
clock_set_persist s utc granularity source tick =
    asked_of s (set_by C.set_utc_time_persist (device_in s) utc (granularity_of granularity) (source_of source) tick)

abbrev pub rtc_set_persist : List ℕ → ℕ → ℕ → ℕ → ℕ → ℕ → Setting
rtc_set_persist s utc granularity source tick was = setting_of s (clock_set_persist s utc granularity source tick) (λ p. p.changed) was

-- ## Load and reset of the clock

abbrev pub source_by : ℕ → ℕ → ℕ → ℕ → Option TrustedSource
source_by mark fabric node endpoint = given mark (record { fabric = fabric; node = node; endpoint = endpoint })

unfoldable pub clock_loaded : List ℕ → ℕ → Option ℕ → Option TrustedSource → Result Device (Unit {0})
clock_loaded s build moment source = asked_of s (H.load_clock build (device_in s) moment source)

abbrev pub load_clock : List ℕ → ℕ → Option ℕ → Option TrustedSource → Called
load_clock s build moment source = on_clock s (clock_loaded s build moment source)

unfoldable pub clock_reset : List ℕ → ℕ → Result Device (Unit {0})
clock_reset s build = asked_of s (H.reset_clock build (device_in s))

abbrev pub reset_clock : List ℕ → ℕ → Called
reset_clock s build = on_clock s (clock_reset s build)

-- ## The list commands: the record that is stored needs room, tested last

unfoldable pub zones_set : List ℕ → List ℕ → ℕ → Result Device Bool
zones_set s request room = record_roomy room (device_in s) (asked_of s (H.set_time_zone (device_in s) request))

abbrev pub zones_image : List ℕ → List ℕ → ℕ → List ℕ
zones_image s request room = table_left s (T.time_zone_left (table_in s) request room)

abbrev pub set_time_zone : List ℕ → List ℕ → List ℕ → ℕ → Storing
set_time_zone s request out used = storing (zones_image s request (length out)) (zones_set s request (length out)) out used

unfoldable pub windows_set : List ℕ → List ℕ → ℕ → Result Device (Unit {0})
windows_set s request room = record_roomy room (device_in s) (asked_of s (H.set_dst_offset (device_in s) request))

abbrev pub windows_image : List ℕ → List ℕ → ℕ → List ℕ
windows_image s request room = table_left s (T.dst_offset_left (table_in s) request room)

abbrev pub set_dst_offset : List ℕ → List ℕ → List ℕ → ℕ → Storing
set_dst_offset s request out used = storing (windows_image s request (length out)) (windows_set s request (length out)) out used

-- ## Load and reset of the lists

unfoldable pub lists_loaded : List ℕ → Option (List ℕ) → Result Device (Unit {0})
lists_loaded s stored = asked_of s (H.load_lists (device_in s) stored)

-- with no record the image stays as it is
abbrev pub load_image : List ℕ → Option (List ℕ) → List ℕ
load_image s None = s
load_image s (Some bytes) = table_left s (T.load_left (table_in s) bytes)

abbrev pub load_lists : List ℕ → Option (List ℕ) → Called
load_lists s stored = record { returned = returned_by (lists_loaded s stored); image = load_image s stored }

unfoldable pub lists_reset : List ℕ → Result Device (Unit {0})
lists_reset s = asked_of s (H.reset_lists (device_in s))

abbrev pub reset_lists : List ℕ → Called
reset_lists s = record { returned = returned_by (lists_reset s); image = table_left s (T.reset_left (table_in s)) }
