use Rattle.std.proofs.Common.{◌≡◌, ◌+◌, rules, sym, ◌∙◌, arith}
use borrow.Author.Tests.{tests}
use Rattle.std.specs.List.{position}
use Rattle.std.proofs.lemmas.Iterator.{YieldsList-from_slice}
use Rattle.std.proofs.lemmas.Iterator.Search.{position_from_yields_List}
use Rattle.memory.specs.Entries.{is_store}
use Rattle.memory.specs.Buffer.{parts, mine, none}
use Rattle.memory.proofs.Entries.{none_first, some_first}
use Rattle.memory.proofs.buffer.Buffer.send_through.Goals as goal

pub returns-in_default : goal.returns-in_default
returns-in_default g c =
    let l = mine c.args.side (parts c.args.self.now) in
    let found : c.position.result ≡ position (is_store c.size-size.result) l = position_from_yields_List (is_store c.size-size.result) _ _ c.position.result c.position.ensures.ran (YieldsList-from_slice l (c.iter.ensures.rest ∙ c.entries.ensures.kept)) (λ x b q k. search (rules, tests)) in
    record { size = c.size-size.result; between = c.size-size.new.self; sized = c.size-size.ensures; first = none_first c.size-size.result l (sym found ∙ c.in_default.is); sent = none }

pub returns : goal.returns
returns g c =
    let l = mine c.args.side (parts c.args.self.now) in
    let found : c.position.result ≡ position (is_store c.size-size.result) l = position_from_yields_List (is_store c.size-size.result) _ _ c.position.result c.position.ensures.ran (YieldsList-from_slice l (c.iter.ensures.rest ∙ c.entries.ensures.kept)) (λ x b q k. search (rules, tests)) in
    (c.in-Some.first + 1, omega arith, record { size = c.size-size.result; between = c.size-size.new.self; sized = c.size-size.ensures; first = some_first c.size-size.result l c.in-Some.first (sym found ∙ c.in-Some.is); sent = c.send_many.ensures })
