-- A hand-over on the loose memory: a take before the item's store has landed, and one after.
use Rattle.std.specs.Prelude.{◌≡◌, ℕ, List, [], ◌∷◌, length}
use Rattle.memory.specs.declared.Memory as memory
use Rattle.memory.specs.declared.Side.TheVariants.{Feeder}
use Rattle.memory.specs.declared.loose.Loose.{Loose}
use Rattle.memory.specs.contracts.loose.LooseMemory.TheImpl as LooseMemory
use Rattle.words.specs.declared.edits.Edit.{Edit}
use Rattle.words.specs.declared.kinds.Kind as kind
use Rattle.words.specs.contracts.items.EditKind.TheImpl as EditKind
use Rattle.lane.specs.declared.answers.PutAnswer.TheVariants.{Accepted}
use Rattle.lane.specs.declared.answers.TakeAnswer.TheVariants.{Empty, Taken}
use Rattle.queue.specs.declared.moves.Move.{Move}
use Rattle.queue.specs.declared.moves.Move.TheVariants.{Feed, Draw, Land}
use Rattle.queue.specs.declared.moves.Said.{Said}
use Rattle.queue.specs.declared.moves.Said.TheVariants.{Nothing, Put, Take}
use Rattle.queue.specs.Plays.{PlayedAsPromised}

-- the loose memory and edits, as the code has them
abbrev pub loose : memory.Ghosts Loose
loose = LooseMemory.ghosts

abbrev pub edits : kind.Ghosts Edit
edits = EditKind.ghosts

-- a put, a take, a landing, and another take
abbrev pub hand_over : Edit → List (Move Edit)
hand_over i = Feed i ∷ Feed i ∷ Feed i ∷ Draw ∷ Draw ∷ Land Feeder 0 ∷ Draw ∷ Draw ∷ []

-- the put takes three steps; the first take is empty after two; the second gives the item after two
abbrev pub told : Edit → List (Said Edit)
told i =
    Nothing ∷ Nothing ∷ Put (record { answer = Accepted; steps = 3 })
    ∷ Nothing ∷ Take (record { answer = Empty; steps = 2 })
    ∷ Nothing
    ∷ Nothing ∷ Take (record { answer = Taken i; steps = 2 }) ∷ []

-- so it goes on every loose memory, with two rings of two cells
abbrev pub LooseHandOver : Type 0
LooseHandOver =
    (number : ℕ) (i : Edit) (x y : Loose) (before after : List (Said Edit)) → length before ≡ 8 →
    PlayedAsPromised loose edits number 2 2 (hand_over i) x before after y → after ≡ told i
