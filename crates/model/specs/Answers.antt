-- What a call answers, and what it asks the device to do, in order.
use Rattle.std.specs.Prelude.{Bool, List, [], ℕ, ℤ, Option}
use Rattle.model.specs.declared.Refusal.{Refusal}
use Rattle.model.specs.Numbers.{refusal_number}
use Rattle.model.specs.Basics.{Moment}
use Rattle.model.specs.Lists.{Name}

-- ## Answers

-- a call is turned down for a cause, or answers a value
pub data Answer (A : Type 0) : Type 0 where
  refused : Refusal → Answer A
  answers : A → Answer A

-- the number of an answer: the refusal's, and 0 where the call was taken
abbrev pub number_of : {A : Type 0} → Answer A → ℕ
number_of (refused r) = refusal_number r
number_of (answers a) = 0

-- an answer that says no more than that the call was taken
abbrev pub Done : Type 0
Done = Answer (Unit {0})

abbrev pub done : Done
done = answers tt

-- ## Attributes that are reported, with Matter's numbers

pub data Attribute : Type 0 where
  UTCTime : Attribute
  Granularity : Attribute
  TimeSource : Attribute
  TrustedTimeSource : Attribute
  TimeZone : Attribute
  DSTOffset : Attribute

abbrev pub attribute_number : Attribute → ℕ
attribute_number UTCTime = 0
attribute_number Granularity = 1
attribute_number Attribute.TimeSource = 2
attribute_number TrustedTimeSource = 3
attribute_number TimeZone = 5
attribute_number DSTOffset = 6

-- ## Events, with Matter's numbers

pub data Event : Type 0 where
  -- no window is usable any more
  DSTTableEmpty : Event
  -- whether a window is active
  DSTStatus : Bool → Event
  -- the zone's offset and name
  TimeZoneStatus : ℤ → Option Name → Event
  -- an attempt got no time
  TimeFailure : Event
  -- there is no trusted source, or it does not answer
  MissingTrustedTimeSource : Event

abbrev pub event_number : Event → ℕ
event_number DSTTableEmpty = 0
event_number (DSTStatus active) = 1
event_number (TimeZoneStatus offset name) = 2
event_number TimeFailure = 3
event_number MissingTrustedTimeSource = 4

-- ## Trusted source

-- trusted source: the fabric that set it, a node of that fabric and an endpoint of the node
pub record TrustedSource : Type 0 where
  pub fabric : ℕ
  pub node : ℕ
  pub endpoint : ℕ

-- ## Effects

-- what is to be reported, emitted, woken, and stored in or removed from flash
pub data Effect : Type 0 where
  report : Attribute → Effect
  emit : Event → Effect
  wake_timer : Effect
  wake_client : Effect
  -- the record of the lists that the call leaves
  store_record : Effect
  remove_record : Effect
  -- the last-known moment
  store_moment : Moment → Effect
  remove_moment : Effect
  store_source : TrustedSource → Effect
  remove_source : Effect

-- ## Results

-- what a call leaves, answers and asks for, the effects in order
pub record Result (S : Type 0) (A : Type 0) : Type 0 where
  pub state : S
  pub answer : Answer A
  pub effects : List Effect

module _ {S A : Type 0} where
  -- turned down, and nothing changes
  abbrev pub unchanged : S → Refusal → Result S A
  unchanged s r = record { state = s; answer = refused r; effects = [] }
