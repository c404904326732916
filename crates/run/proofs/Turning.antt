-- A step on a lane in play, by what the move answers.
use Rattle.std.proofs.Common.{◌≡◌, Some, None, Option, sym, refl, ap, ◌∙◌, subst}
use Rattle.memory.specs.declared.Memory as memory
use Rattle.words.specs.declared.kinds.Kind as kind
use Rattle.lane.specs.declared.answers.Ended.{Ended}
use Rattle.lane.specs.declared.answers.PutAnswer.{PutAnswer}
use Rattle.lane.specs.declared.answers.TakeAnswer.{TakeAnswer}
use Rattle.lane.specs.Moments.{Moment, PutStep, TakeStep}
use Rattle.queue.specs.declared.moves.Move.TheVariants.{Feed, Draw}
use Rattle.queue.specs.declared.moves.Said.{Said}
use Rattle.queue.specs.Plays.{put_said, take_said}
use Rattle.queue.specs.Turns.{Turn}
use Rattle.queue.specs.Turns as turn
use Rattle.queue.specs.InPlay.{Begun, TakeBegins}
use Rattle.run.specs.Running.{said_put, said_take}

module _ {K X : Type 0} (G : memory.Ghosts X) (κ : kind.Ghosts K) where
  -- a step of a put of item i, and a step of a take, which begins the call where none is under way
  pub record FedOn (i : K) (m : Moment K X) (a : Option (Ended (PutAnswer K))) (n : Moment K X) : Type 0 where
    pub middle : Moment K X
    pub begun : Begun i m middle
    pub step : PutStep G κ middle n a

  pub record DrawnOn (m : Moment K X) (a : Option (Ended (TakeAnswer K))) (n : Moment K X) : Type 0 where
    pub middle : Moment K X
    pub begun : TakeBegins m middle
    pub step : TakeStep G κ middle n a

module _ {K : Type 0} where
  put_back : (a : Option (Ended (PutAnswer K))) → said_put (put_said a) ≡ a
  put_back None = refl
  put_back (Some e) = refl

  take_back : (a : Option (Ended (TakeAnswer K))) → said_take (take_said a) ≡ a
  take_back None = refl
  take_back (Some e) = refl

module _ {K X : Type 0} (G : memory.Ghosts X) (κ : kind.Ghosts K) where
  pub fed_on : {i : K} {m n : Moment K X} (s : Said K) → Turn G κ (Feed i) m s n → FedOn G κ i m (said_put s) n
  fed_on {n = n} s (turn.Turn.feeds {n = middle} b t) = record { middle = middle; begun = b; step = subst (λ (a : Option (Ended (PutAnswer K))). PutStep G κ middle n a) (sym (ap said_put t.says ∙ put_back t.answer)) t.step }

  pub drawn_on : {m n : Moment K X} (s : Said K) → Turn G κ Draw m s n → DrawnOn G κ m (said_take s) n
  drawn_on {n = n} s (turn.Turn.draws {n = middle} b t) = record { middle = middle; begun = b; step = subst (λ (a : Option (Ended (TakeAnswer K))). TakeStep G κ middle n a) (sym (ap said_take t.says ∙ take_back t.answer)) t.step }
