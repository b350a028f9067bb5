-- What the parts of an image stand for, and what writing one leaves. A part is given by its place, so that a second one can stand elsewhere.
use Rattle.std.specs.Prelude.{Bool, cond, List, [], ◌∷◌, ◌++◌, ℕ, ◌+◌, replicate, Option, None, Some, is_some, unwrap_or}
use Rattle.std.specs.Int.{from_bool}
use Rattle.model.specs.declared.TimeGranularity.TheVariants.{NoTime}
use Rattle.model.specs.declared.TimeSource.TheVariants as S
use Rattle.model.specs.Numbers.{granularity_number, granularity_of, source_number, source_of}
use Rattle.model.specs.Answers.{TrustedSource}
use Rattle.model.specs.Bytes.{bytes, bits_of, signed}
use Rattle.model.specs.Clock.{Clock, fresh}
use Rattle.model.specs.Handler.{Device}
use Rattle.model.specs.Timer.{Timer}
use Rattle.model.specs.Retries.{Client, new_client}
use Rattle.word.specs.Place.{byte_at, word_at, placed}
use Rattle.table.specs.Layout.{mark_at, maybe_at, store_in}
use Rattle.table.specs.Layout as T
use Rattle.image.specs.Layout.{magic, store_place, clock_place, client_place, timer_place, table_in}

-- ## What the parts stand for

abbrev pub trusted_at : List ℕ → ℕ → Option TrustedSource
trusted_at s at =
    cond (mark_at s (at + 3)) (Some (record { fabric = byte_at s (at + 4); node = word_at 8 s (at + 32); endpoint = word_at 2 s (at + 6) })) None

-- a code out of range stands for NoTime and for None
abbrev pub clock_at : List ℕ → ℕ → Clock
clock_at s at =
    record {
      utc = word_at 8 s (at + 8);
      persisted = word_at 8 s (at + 16);
      granularity = unwrap_or (granularity_of (byte_at s at)) NoTime;
      source = unwrap_or (source_of (byte_at s (at + 1))) S.None;
      anchor = maybe_at s (at + 2) (at + 24);
      trusted = trusted_at s at;
    }

abbrev pub timer_at : List ℕ → ℕ → Timer
timer_at s at =
    cond (mark_at s at) (Some (record { offset = signed (word_at 4 s (at + 4)); active = mark_at s (at + 1); usable = mark_at s (at + 2) })) None

abbrev pub client_at : List ℕ → ℕ → Client
client_at s at =
    record {
      period = word_at 8 s at;
      retry = word_at 8 s (at + 8);
      missing_at = maybe_at s (at + 32) (at + 16);
      failure_at = maybe_at s (at + 33) (at + 24);
    }

-- ## An image

abbrev pub clock_in : List ℕ → Clock
clock_in s = clock_at s clock_place

abbrev pub timer_in : List ℕ → Timer
timer_in s = timer_at s timer_place

abbrev pub client_in : List ℕ → Client
client_in s = client_at s client_place

-- whether there is a list store
abbrev pub has_lists : List ℕ → Bool
has_lists s = mark_at s store_place

-- the clock, and the list store where there is one
abbrev pub device_in : List ℕ → Device
device_in s = record { clock = clock_in s; store = cond (has_lists s) (Some (store_in (table_in s))) None }

-- ## Bytes of the parts

-- the fabric, the node and the endpoint of a trusted source, zeros where there is none
abbrev pub fabric_of : Option TrustedSource → ℕ
fabric_of None = 0
fabric_of (Some t) = t.fabric

abbrev pub node_of : Option TrustedSource → ℕ
node_of None = 0
node_of (Some t) = t.node

abbrev pub endpoint_of : Option TrustedSource → ℕ
endpoint_of None = 0
endpoint_of (Some t) = t.endpoint

-- 40 bytes
unfoldable pub clock_bytes : Clock → List ℕ
clock_bytes c =
    granularity_number c.granularity ∷ source_number c.source ∷ from_bool (is_some c.anchor) ∷ from_bool (is_some c.trusted) ∷ fabric_of c.trusted ∷ 0
    ∷ (bytes 2 (endpoint_of c.trusted)
    ++ (bytes 8 c.utc ++ (bytes 8 c.persisted ++ (bytes 8 (unwrap_or c.anchor 0) ++ bytes 8 (node_of c.trusted)))))

-- 8 bytes
unfoldable pub timer_bytes : Timer → List ℕ
timer_bytes None = 0 ∷ 0 ∷ 0 ∷ 0 ∷ bytes 4 0
timer_bytes (Some seen) = 1 ∷ from_bool seen.active ∷ from_bool seen.usable ∷ 0 ∷ bytes 4 (bits_of seen.offset)

-- 40 bytes
unfoldable pub client_bytes : Client → List ℕ
client_bytes c =
    bytes 8 c.period
    ++ (bytes 8 c.retry
    ++ (bytes 8 (unwrap_or c.missing_at 0)
    ++ (bytes 8 (unwrap_or c.failure_at 0) ++ (from_bool (is_some c.missing_at) ∷ from_bool (is_some c.failure_at) ∷ replicate 6 0))))

-- ## A part written

unfoldable pub with_clock : List ℕ → Clock → List ℕ
with_clock s c = placed s clock_place (clock_bytes c)

unfoldable pub with_timer : List ℕ → Timer → List ℕ
with_timer s t = placed s timer_place (timer_bytes t)

unfoldable pub with_client : List ℕ → Client → List ℕ
with_client s c = placed s client_place (client_bytes c)

-- ## A new image

-- the limits of a new image; without a list store there are none
abbrev pub limit_of : Bool → ℕ → ℕ
limit_of there n = cond there n 0

-- the magic, the mark, a fresh clock, a new client, a timer that saw nothing, and an empty table
unfoldable pub new_bytes : Bool → ℕ → ℕ → ℕ → ℕ → List ℕ
new_bytes there zones windows build period =
    bytes 4 magic
    ++ ((from_bool there ∷ 0 ∷ 0 ∷ 0 ∷ [])
    ++ (clock_bytes (fresh build)
    ++ (client_bytes (new_client period)
    ++ (timer_bytes None ++ T.new_bytes (record { zone_limit = limit_of there zones; window_limit = limit_of there windows })))))

unfoldable pub new_image : List ℕ → Bool → ℕ → ℕ → ℕ → ℕ → List ℕ
new_image s there zones windows build period = placed s 0 (new_bytes there zones windows build period)
