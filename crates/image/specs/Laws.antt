-- What holds of images; the proofs stand in proofs/.
use Rattle.std.specs.Prelude.{Bool, true, List, ◌≡◌, ℕ, ◌^◌, ◌≤◌, ◌<◌, length, None, Some, unwrap_or}
use Rattle.model.specs.RoundTrip.{IsMoment, IsOffset}
use Rattle.model.specs.Rules.{allowed}
use Rattle.model.specs.Clock.{Clock, fresh}
use Rattle.model.specs.Lists.{empty}
use Rattle.model.specs.Timer.{Timer}
use Rattle.model.specs.Retries.{Client, new_client}
use Rattle.table.specs.Layout.{table_size, store_in}
use Rattle.image.specs.Layout.{image_size, is_image, table_in, with_table}
use Rattle.image.specs.Parts.{clock_in, timer_in, client_in, has_lists, fabric_of, node_of, endpoint_of, limit_of, with_clock, with_timer, with_client, new_image}

-- ## Numbers that fit their places

pub record ClockFits (c : Clock) : Type 0 where
  pub utc : IsMoment c.utc
  pub persisted : IsMoment c.persisted
  pub anchor : IsMoment (unwrap_or c.anchor 0)
  pub fabric : fabric_of c.trusted < 256
  pub node : IsMoment (node_of c.trusted)
  pub endpoint : endpoint_of c.trusted < 2 ^ 16

abbrev pub TimerFits : Timer → Type 0
TimerFits None = Unit {0}
TimerFits (Some seen) = IsOffset seen.offset

pub record ClientFits (c : Client) : Type 0 where
  pub period : IsMoment c.period
  pub retry : IsMoment c.retry
  pub missing : IsMoment (unwrap_or c.missing_at 0)
  pub failure : IsMoment (unwrap_or c.failure_at 0)

-- ## What is written reads back

-- `clock_back`, `timer_back` and `client_back` in proofs/Back.antt
abbrev pub ClockBack : Type 0
ClockBack = (s : List ℕ) (c : Clock) → is_image s ≡ true → ClockFits c → clock_in (with_clock s c) ≡ c

abbrev pub TimerBack : Type 0
TimerBack = (s : List ℕ) (t : Timer) → is_image s ≡ true → TimerFits t → timer_in (with_timer s t) ≡ t

abbrev pub ClientBack : Type 0
ClientBack = (s : List ℕ) (c : Client) → is_image s ≡ true → ClientFits c → client_in (with_client s c) ≡ c

-- ## The other parts stay, and an image stays one, whatever is written

-- `clock_written`, `timer_written`, `client_written` and `table_written` in proofs/Alone.antt
pub record ClockAlone (s t : List ℕ) : Type 0 where
  pub there : has_lists t ≡ has_lists s
  pub table : table_in t ≡ table_in s
  pub timer : timer_in t ≡ timer_in s
  pub client : client_in t ≡ client_in s
  pub long : length t ≡ length s
  pub image : is_image t ≡ true

abbrev pub ClockWritten : Type 0
ClockWritten = (s : List ℕ) (c : Clock) → is_image s ≡ true → ClockAlone s (with_clock s c)

pub record TimerAlone (s t : List ℕ) : Type 0 where
  pub there : has_lists t ≡ has_lists s
  pub table : table_in t ≡ table_in s
  pub clock : clock_in t ≡ clock_in s
  pub client : client_in t ≡ client_in s
  pub long : length t ≡ length s
  pub image : is_image t ≡ true

abbrev pub TimerWritten : Type 0
TimerWritten = (s : List ℕ) (t : Timer) → is_image s ≡ true → TimerAlone s (with_timer s t)

pub record ClientAlone (s t : List ℕ) : Type 0 where
  pub there : has_lists t ≡ has_lists s
  pub table : table_in t ≡ table_in s
  pub clock : clock_in t ≡ clock_in s
  pub timer : timer_in t ≡ timer_in s
  pub long : length t ≡ length s
  pub image : is_image t ≡ true

abbrev pub ClientWritten : Type 0
ClientWritten = (s : List ℕ) (c : Client) → is_image s ≡ true → ClientAlone s (with_client s c)

-- a table that is written reads back
pub record TableAlone (s t u : List ℕ) : Type 0 where
  pub there : has_lists t ≡ has_lists s
  pub table : table_in t ≡ u
  pub clock : clock_in t ≡ clock_in s
  pub timer : timer_in t ≡ timer_in s
  pub client : client_in t ≡ client_in s
  pub long : length t ≡ length s
  pub image : is_image t ≡ true

abbrev pub TableWritten : Type 0
TableWritten = (s u : List ℕ) → is_image s ≡ true → length u ≡ table_size → TableAlone s (with_table s u) u

-- an image has room for its table: `table_long` in proofs/Alone.antt
abbrev pub TableLong : Type 0
TableLong = (s : List ℕ) → is_image s ≡ true → length (table_in s) ≡ table_size

-- ## A new image

-- the limits are allowed, or there is no list store
abbrev pub LimitsAllowed : Bool → ℕ → ℕ → Type 0
LimitsAllowed there zones windows = there ≡ true → allowed (record { zone_limit = zones; window_limit = windows }) ≡ true

pub record Fresh (t : List ℕ) (lists : Bool) (zones windows build period : ℕ) : Type 0 where
  pub image : is_image t ≡ true
  pub there : has_lists t ≡ lists
  pub store : store_in (table_in t) ≡ record { rules = record { zone_limit = limit_of lists zones; window_limit = limit_of lists windows }; lists = empty; generation = 0 }
  pub clock : clock_in t ≡ fresh build
  pub timer : timer_in t ≡ None
  pub client : client_in t ≡ new_client period

-- `new_is_fresh` in proofs/New.antt
abbrev pub NewIsFresh : Type 0
NewIsFresh =
    (s : List ℕ) (there : Bool) (zones windows build period : ℕ)
    → image_size ≤ length s → LimitsAllowed there zones windows → IsMoment build → IsMoment period
    → Fresh (new_image s there zones windows build period) there zones windows build period
