-- A part that is written leaves the others, and an image.
use Rattle.std.proofs.Common.{◌∙◌, arith, take_all, length-take, length-drop}
use Rattle.table.specs.Layout.{table_size}
use Rattle.image.specs.Layout.{clock_place, timer_place, client_place, table_place, with_table}
use Rattle.image.specs.Parts.{clock_bytes, timer_bytes, client_bytes, with_clock, with_timer, with_client}
use Rattle.image.specs.Laws.{ClockWritten, TimerWritten, ClientWritten, TableWritten, TableLong}
use Rattle.word.proofs.Frame.{length_placed, part_in}
use Rattle.image.proofs.Written.{length_clock, length_timer, length_client}
use Rattle.image.proofs.Outside.{image_is, before, after, mark_apart, table_apart, clock_apart, timer_apart, client_apart, image_apart}

pub clock_written : ClockWritten
unfolding with_clock
clock_written s c i =
    let bs = clock_bytes c in
    let l = length_clock c in
    record {
      there = mark_apart s clock_place bs l (omega arith);
      table = table_apart s clock_place bs l (after (omega arith));
      timer = timer_apart s clock_place bs l timer_place (after (omega arith));
      client = client_apart s clock_place bs l client_place (after (omega arith));
      long = length_placed s clock_place bs;
      image = image_apart s clock_place bs l (omega arith) i;
    }

pub timer_written : TimerWritten
unfolding with_timer
timer_written s x i =
    let bs = timer_bytes x in
    let l = length_timer x in
    record {
      there = mark_apart s timer_place bs l (omega arith);
      table = table_apart s timer_place bs l (after (omega arith));
      clock = clock_apart s timer_place bs l clock_place (before (omega arith));
      client = client_apart s timer_place bs l client_place (before (omega arith));
      long = length_placed s timer_place bs;
      image = image_apart s timer_place bs l (omega arith) i;
    }

pub client_written : ClientWritten
unfolding with_client
client_written s c i =
    let bs = client_bytes c in
    let l = length_client c in
    record {
      there = mark_apart s client_place bs l (omega arith);
      table = table_apart s client_place bs l (after (omega arith));
      clock = clock_apart s client_place bs l clock_place (before (omega arith));
      timer = timer_apart s client_place bs l timer_place (after (omega arith));
      long = length_placed s client_place bs;
      image = image_apart s client_place bs l (omega arith) i;
    }

pub table_written : TableWritten
unfolding with_table
table_written s u i l =
    record {
      there = mark_apart s table_place u l (omega arith);
      table = part_in s table_place u (omega (arith, (image_is s i).size)) table_size table_place 0 (omega arith) (omega arith) ∙ take_all table_size u (omega arith);
      clock = clock_apart s table_place u l clock_place (before (omega arith));
      timer = timer_apart s table_place u l timer_place (before (omega arith));
      client = client_apart s table_place u l client_place (before (omega arith));
      long = length_placed s table_place u;
      image = image_apart s table_place u l (omega arith) i;
    }

pub table_long : TableLong
table_long s i = simp (length-take, length-drop) (omega (arith, (image_is s i).size))
