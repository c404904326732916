use Rattle.std.proofs.Common.{◌≡◌, ℕ, sym, ap, subst, arith}
use Rattle.book.specs.Choices.{BareBuffer, WithDepth, buffered, records_in}
use Rattle.book.specs.Settings.{entries_of}
use Rattle.book.proofs.Beginning.{started, with_buffer}
use Rattle.book.proofs.choices.Asked.with_depth.Goals as goal

pub returns : goal.returns
returns g c =
    let s = c.args.self.now in
    let r = c.run_on-2.result in
    let d = c.in-Some.depth.entries in
    let h = started (buffered g.M.Memory) g.K.Kind (λ x. x ≡ c.in-Ok.buffer) (BareBuffer g.M.Memory d) s.settings.rings s.settings.cells s.words.now s.moves.now r (records_in r c.run_on-2.new.log) (λ x e. rw e record { below = c.args.memory; bare = c.requires; opened = c.in-Ok.ensures }) c.run_on-2.ensures in
    subst (λ (n : ℕ). WithDepth g.M.Memory g.K.Kind n s.settings.rings s.settings.cells s.words.now s.moves.now r (records_in r c.run_on-2.new.log)) (sym (ap entries_of c.in-Some.is)) (with_buffer g.M.Memory g.K.Kind d s.settings.rings s.settings.cells s.words.now s.moves.now r (records_in r c.run_on-2.new.log) (λ z. omega (arith, c.in-Some.depth.in_range)) h)
