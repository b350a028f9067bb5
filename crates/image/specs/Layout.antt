-- The image of a controller: 1,136 bytes that a caller lends, each part at a fixed place, numbers little endian. Its length and its magic
-- make it an image; every other byte is read totally, so any bytes behind the magic stand for some state.
--
--   at   bytes  what
--    0     4    the magic, TMS1
--    4     1    whether there is a list store: 0, or any other number
--    5     3    not used
--    8    40    the clock
--   48    40    the client
--   88     8    the timer
--   96  1040    the table: limits, generation and both lists
--
-- the clock
--    0     1    granularity, 0 to 4; any other number stands for NoTime
--    1     1    time source, 0 to 16; any other number stands for None
--    2     1    whether it is set
--    3     1    whether there is a trusted time source
--    4     1    its fabric index
--    5     1    not used
--    6     2    its endpoint
--    8     8    UTC time, last set or last known
--   16     8    UTC time that was persisted
--   24     8    the tick of the last setting
--   32     8    the node of the trusted time source
--
-- the client
--    0     8    period
--    8     8    next retry
--   16     8    the tick of the last MissingTrustedTimeSource
--   24     8    the tick of the last TimeFailure
--   32     1    whether there was a MissingTrustedTimeSource
--   33     1    whether there was a TimeFailure
--   34     6    not used
--
-- the timer
--    0     1    whether it has seen anything
--    1     1    whether it saw a window active
--    2     1    whether it saw one usable
--    3     1    not used
--    4     4    the zone's offset that it saw
use Rattle.std.specs.Prelude.{Bool, ◌&&◌, List, ℕ, leb, eqb, length, take, drop}
use Rattle.word.specs.Place.{word_at, placed}
use Rattle.table.specs.Layout.{table_size}

-- how many bytes an image has
abbrev pub image_size : ℕ
image_size = 1136

-- T, M, S, 1
abbrev pub magic : ℕ
magic = 0x31534d54

-- ## Places

abbrev pub magic_place : ℕ
magic_place = 0

abbrev pub store_place : ℕ
store_place = 4

abbrev pub clock_place : ℕ
clock_place = 8

abbrev pub client_place : ℕ
client_place = 48

abbrev pub timer_place : ℕ
timer_place = 88

abbrev pub table_place : ℕ
table_place = 96

-- ## Which bytes are an image: long enough, and marked as one

unfoldable pub is_image : List ℕ → Bool
is_image s = leb image_size (length s) && eqb (word_at 4 s magic_place) magic

-- ## The table of an image

abbrev pub table_in : List ℕ → List ℕ
table_in s = take table_size (drop table_place s)

-- another table
unfoldable pub with_table : List ℕ → List ℕ → List ℕ
with_table s t = placed s table_place t
