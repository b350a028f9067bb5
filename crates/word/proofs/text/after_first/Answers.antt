-- `word::text::after_first` meets its contract: each arm is a row of the table.
use Rattle.std.proofs.Common.{[], Some, None, arith}
use Rattle.std.proofs.lemmas.Bool.Decides.{nat_tests}
use Rattle.model.specs.Bytes.{row}
use Rattle.word.proofs.Rows.{by_table, by_row}
use Rattle.word.proofs.text.after_first.Goals as goal
use Rattle.word.proofs.text.after_first.Goals.{in_default-via-then-first-lt194, in_default-via-else-first-lt194+else-first-lt224+else-first-lt237+else-first-lt240+else-first-lt244}

pub returns-in-0-to-127 : goal.returns-in-0-to-127
unfolding row
returns-in-0-to-127 c = (by_table _ _ (Some []) (grind (arith, nat_tests)), omega arith)

pub returns-in-194-to-223 : goal.returns-in-194-to-223
unfolding row
returns-in-194-to-223 c = by_row _ _ _ _ (grind (arith, nat_tests)) c.after-in-194-to-223.ensures

pub returns-in-224 : goal.returns-in-224
unfolding row
returns-in-224 c = by_row _ _ _ _ (grind (arith, nat_tests)) c.after.ensures

pub returns-in-225-to-236 : goal.returns-in-225-to-236
unfolding row
returns-in-225-to-236 c = by_row _ _ _ _ (grind (arith, nat_tests)) c.after-in-225-to-236.ensures

pub returns-in-237 : goal.returns-in-237
unfolding row
returns-in-237 c = by_row _ _ _ _ (grind (arith, nat_tests)) c.after-in-237.ensures

pub returns-in-238-to-239 : goal.returns-in-238-to-239
unfolding row
returns-in-238-to-239 c = by_row _ _ _ _ (grind (arith, nat_tests)) c.after-in-238-to-239.ensures

pub returns-in-240 : goal.returns-in-240
unfolding row
returns-in-240 c = by_row _ _ _ _ (grind (arith, nat_tests)) c.after-in-240.ensures

pub returns-in-241-to-243 : goal.returns-in-241-to-243
unfolding row
returns-in-241-to-243 c = by_row _ _ _ _ (grind (arith, nat_tests)) c.after-in-241-to-243.ensures

pub returns-in-244 : goal.returns-in-244
unfolding row
returns-in-244 c = by_row _ _ _ _ (grind (arith, nat_tests)) c.after-in-244.ensures

pub returns-in_default : goal.returns-in_default
unfolding row
returns-in_default c = by_table _ _ None (grind (arith, nat_tests))
