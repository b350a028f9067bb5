-- Histories of calls at the entry points: what each leaves of the image, as its contract says.
use Rattle.std.specs.Prelude.{List, [], ◌∷◌, ◌++◌, ℕ, Option}
use Rattle.model.specs.Basics.{run, All}
use Rattle.model.specs.Answers.{TrustedSource}
use Rattle.model.specs.Handler.{Named}
use Rattle.model.specs.History as H
use Rattle.model.specs.Output.{SizedCall}
use Rattle.model.specs.RoundTrip.{CallBytes}
use Rattle.model.specs.Retries.{Outcome}
use Rattle.commands.specs.Calls as C
use Rattle.steps.specs.Steps as S

-- the calls that can change an image, with their arguments; of an output slice only its length counts
pub data Entry : Type 0 where
  -- a request, and the room for the record
  set_time_zone : List ℕ → ℕ → Entry
  set_dst_offset : List ℕ → ℕ → Entry
  load_lists : Option (List ℕ) → Entry
  reset_lists : Entry
  set_utc_time_command : ℕ → ℕ → Option ℕ → ℕ → Entry
  set_trusted_time_source : ℕ → Option Named → Entry
  rtc_set_utc_time : ℕ → ℕ → ℕ → ℕ → Entry
  rtc_set_utc_time_persist : ℕ → ℕ → ℕ → ℕ → Entry
  load_clock : ℕ → Option ℕ → Option TrustedSource → Entry
  reset_clock : ℕ → Entry
  -- a tick, and the room for a name
  look : ℕ → ℕ → Entry
  attempt : Outcome → ℕ → Entry
  source_changed : Entry

-- the image that a call leaves
abbrev pub image_next : List ℕ → Entry → List ℕ
image_next s (set_time_zone request room) = C.zones_image s request room
image_next s (set_dst_offset request room) = C.windows_image s request room
image_next s (load_lists stored) = (C.load_lists s stored).image
image_next s reset_lists = (C.reset_lists s).image
image_next s (set_utc_time_command utc granularity source tick) = (C.set_utc_time_command s utc granularity source tick).image
image_next s (set_trusted_time_source fabric named) = (C.set_trusted_time_source s fabric named).image
image_next s (rtc_set_utc_time utc granularity source tick) = (C.rtc_set s utc granularity source tick 0).image
image_next s (rtc_set_utc_time_persist utc granularity source tick) = (C.rtc_set_persist s utc granularity source tick 0).image
image_next s (load_clock build moment source) = (C.load_clock s build moment source).image
image_next s (reset_clock build) = (C.reset_clock s build).image
image_next s (look tick room) = S.look_left s (S.look s tick room)
image_next s (attempt outcome tick) = S.attempt_left s (S.attempt s outcome tick)
image_next s source_changed = S.change_left s (S.source_changed s)

-- the image that a history leaves
abbrev pub image_through : List ℕ → List Entry → List ℕ
image_through s calls = run image_next s calls

-- ## What a history means for the lists

-- a call on the lists, with the length of the slice that its caller lends; no other call means anything for them
abbrev pub list_call : Entry → List SizedCall
list_call (set_time_zone request room) = record { call = H.SetTimeZone request; room = room } ∷ []
list_call (set_dst_offset request room) = record { call = H.SetDSTOffset request; room = room } ∷ []
list_call (load_lists stored) = record { call = H.Load stored; room = 0 } ∷ []
list_call reset_lists = record { call = H.FactoryReset; room = 0 } ∷ []
list_call (set_utc_time_command utc granularity source tick) = []
list_call (set_trusted_time_source fabric named) = []
list_call (rtc_set_utc_time utc granularity source tick) = []
list_call (rtc_set_utc_time_persist utc granularity source tick) = []
list_call (load_clock build moment source) = []
list_call (reset_clock build) = []
list_call (look tick room) = []
list_call (attempt outcome tick) = []
list_call source_changed = []

unfoldable pub list_calls : List Entry → List SizedCall
list_calls [] = []
list_calls (e ∷ es) = list_call e ++ list_calls es

-- the arguments of the calls are bytes
abbrev pub EntryBytes : Entry → Type 0
EntryBytes e = All (λ a. CallBytes a.call) (list_call e)
