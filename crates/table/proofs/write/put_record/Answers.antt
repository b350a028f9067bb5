-- `write::put_record` meets its contract.
use Rattle.std.proofs.Common.{◌≡◌, ◌+◌, length, ap, ◌∙◌, arith}
use Rattle.model.specs.Bytes.{zones_bytes, windows_bytes, record_bytes}
use Rattle.word.specs.Place.{put}
use Rattle.word.proofs.Laws.{put_put}
use Rattle.table.specs.Layout.{zones_in, windows_in}
use Rattle.table.proofs.Listed.{zones_section, few_zones, windows_section, few_windows}
use Rattle.table.proofs.Bounds.{record_parts}
use Rattle.table.proofs.write.put_record.Goals as goal

pub put_section-at-requires : goal.put_section-at-requires
put_section-at-requires c =
    let s = c.args.table.now in
    record { count = omega (arith, few_zones s _ c.zones.ensures); room = omega (arith, c.requires, ap length (zones_section s _ c.zones.ensures), record_parts s) }

pub put_section-requires : goal.put_section-requires
put_section-requires c =
    let s = c.args.table.now in
    record {
      count = omega (arith, few_windows s _ c.windows.ensures);
      room = omega (arith, c.requires, ap length (zones_section s _ c.zones.ensures), ap length (windows_section s _ c.windows.ensures), record_parts s, c.put_section-at.ensures.1, c.put_section-at.auto.out);
    }

pub returns : goal.returns
unfolding record_bytes
returns c =
    let s = c.args.table.now in
    let z = zones_section s _ c.zones.ensures in
    let w = windows_section s _ c.windows.ensures in
    let at : c.put_section-at.result ≡ 0 + length (zones_bytes (zones_in s)) = c.put_section-at.ensures.1 ∙ ap (λ bs. 0 + length bs) z in
    let first = c.put_section-at.ensures.0 ∙ ap (put c.args.out.now 0) z in (
      c.put_section.ensures.0 ∙ ap (put c.put_section-at.new.out c.put_section-at.result) w ∙ ap (λ l. put l c.put_section-at.result (windows_bytes (windows_in s))) first
          ∙ put_put c.args.out.now 0 (zones_bytes (zones_in s)) (windows_bytes (windows_in s)) at (omega arith),
      omega (arith, ap length z, ap length w, record_parts s, c.put_section-at.ensures.1, c.put_section.ensures.1),
    )
