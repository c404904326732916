use Rattle.std.proofs.Common.{◌++◌, ap, ◌∙◌, length, take, arith}
use Rattle.std.proofs.lemmas.List.{length-take, length-drop}
use Rattle.listing.specs.Listing.{lines, end_line}
use Rattle.listing.proofs.Whole.{lines_more, next_fits, all_lines, end_fits}
use Rattle.listing.proofs.Writing.{same_text, text_more}
use Rattle.listing.proofs.listings.put_lines.Goals as goal

pub put_text-at-requires : goal.put_text-at-requires
put_text-at-requires c =
    let n = ap length (c.as_slice.ensures ∙ c.line_of.ensures.text) in
    simp (length-take, length-drop) (omega (arith, next_fits c.args.records.now c.args.end.now c.loop-call.call-index c.loop-call-test.true))

pub loop-call-preserved : goal.loop-call-preserved
loop-call-preserved c =
    let f = next_fits c.args.records.now c.args.end.now c.loop-call.call-index c.loop-call-test.true in
    let e = ap (λ x. lines (take c.loop-call.call-index c.args.records.now) ++ x) (c.as_slice.ensures ∙ c.line_of.ensures.text) in
    same_text (e ∙ lines_more c.args.records.now c.loop-call.call-index c.loop-call-test.true) (text_more c.loop-call.invariant (omega arith) c.put_text-at.ensures)

pub returns : goal.returns
returns c =
    let f = end_fits c.args.records.now c.args.end.now c.loop-call.call-index c.loop-call-test.false in
    let d = ap (λ x. lines (take c.loop-call.call-index c.args.records.now) ++ x) (c.as_slice-2.ensures ∙ c.end_line_of.ensures.text) in
    let e = ap (λ x. x ++ end_line c.args.end.now) (all_lines c.args.records.now c.loop-call.call-index c.loop-call-test.false) in
    same_text (d ∙ e) (text_more c.loop-call.invariant (omega arith) c.put_text.ensures)
