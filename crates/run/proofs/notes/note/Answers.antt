use Rattle.std.proofs.Common.{sym}
use Rattle.std.proofs.lemmas.Option.{none-some}
use Rattle.run.proofs.Noting.{noted_one}
use Rattle.run.proofs.notes.note.Goals as goal

pub returns : goal.returns
returns c = rw c.in-Some.is (λ e. none-some _ (sym e), noted_one c.args.index _ c.args.calls c.args.log.now c.requires)
