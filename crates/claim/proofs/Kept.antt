-- Every call on an image leaves one, with a list store or without, whatever its lists.
use Rattle.std.specs.Prelude.{None, Some}
use mathlib.Core.Bool.{Bool, true, false, cond}
use mathlib.Core.List.{List, []}
use mathlib.Core.Path.{◌≡◌, ◌∙◌}
use Prim.Native.Nat.{ℕ}
use lib.ListN.{length}
use Rattle.table.specs.Left as T
use Rattle.table.proofs.Follows.{lengths_stay}
use Rattle.image.specs.Layout.{is_image, table_in, with_table}
use Rattle.image.specs.Parts.{has_lists}
use Rattle.image.proofs.Alone.{table_written, table_long}
use Rattle.commands.specs.Calls as C
use Rattle.steps.specs.Steps as S
use Rattle.claim.specs.Histories.{set_time_zone, set_dst_offset, load_lists, reset_lists, set_utc_time_command, set_trusted_time_source, rtc_set_utc_time, rtc_set_utc_time_persist, load_clock, reset_clock, look, attempt, source_changed}
use Rattle.claim.specs.Claim.{CallLeavesImage}
use Rattle.claim.proofs.Left.{call_kept, look_kept, attempt_kept, change_kept}

module _ (s : List ℕ) (i : is_image s ≡ true) where
  -- a table that is as long as the one before is written, or nothing
  table_kept : (u : List ℕ) → length u ≡ length (table_in s) → is_image (C.table_left s u) ≡ true
  table_kept u n = rw i (go (has_lists s))
    where
      go : (b : Bool) → is_image (cond b (with_table s u) s) ≡ true
      go true = (table_written s u i (n ∙ table_long s i)).image
      go false = i

pub call_leaves_image : CallLeavesImage
call_leaves_image s (set_time_zone b room) i = table_kept s i (T.time_zone_left (table_in s) b room) (lengths_stay (table_in s) b room).time_zone
call_leaves_image s (set_dst_offset b room) i = table_kept s i (T.dst_offset_left (table_in s) b room) (lengths_stay (table_in s) b room).dst_offset
call_leaves_image s (load_lists None) i = i
call_leaves_image s (load_lists (Some b)) i = table_kept s i (T.load_left (table_in s) b) (lengths_stay (table_in s) b 0).load
call_leaves_image s reset_lists i = table_kept s i (T.reset_left (table_in s)) (lengths_stay (table_in s) [] 0).reset
call_leaves_image s (set_utc_time_command utc granularity source tick) i = (call_kept s i (C.utc_time_set s utc granularity source tick)).image
call_leaves_image s (set_trusted_time_source fabric named) i = (call_kept s i (C.source_set s fabric named)).image
call_leaves_image s (rtc_set_utc_time utc granularity source tick) i = (call_kept s i (C.clock_set s utc granularity source tick)).image
call_leaves_image s (rtc_set_utc_time_persist utc granularity source tick) i = (call_kept s i (C.clock_set_persist s utc granularity source tick)).image
call_leaves_image s (load_clock build moment source) i = (call_kept s i (C.clock_loaded s build moment source)).image
call_leaves_image s (reset_clock build) i = (call_kept s i (C.clock_reset s build)).image
call_leaves_image s (look tick room) i = (look_kept s i (S.look s tick room)).image
call_leaves_image s (attempt outcome tick) i = (attempt_kept s i (S.attempt s outcome tick)).image
call_leaves_image s source_changed i = (change_kept s i (S.source_changed s)).image
