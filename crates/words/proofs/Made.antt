-- A result whose fault is told as another, from the result that was made.
use Rattle.std.proofs.Common.{◌≡◌, Result, Ok, Err}
use Rattle.std.specs.Result.{MatchResult, IsErrAnd}

pub read_made :
    {A E F : Type 0} {Made Kept : A → Type 0} {Refused : E → Type 0} {Gone : F → Type 0} {Told : E → F → Type 0}
    (made : Result A E) (read : Result A F) →
    MatchResult made Made Refused →
    MatchResult made (λ x. read ≡ Ok x) (λ e. IsErrAnd read (Told e)) →
    ((x : A) → Made x → Kept x) →
    ((e : E) (f : F) → Refused e → Told e f → Gone f) →
    MatchResult read Kept Gone
read_made (Ok x) read m t k g = rw t (k x m)
read_made (Err e) (Ok y) m t k g = absurd t
read_made (Err e) (Err f) m t k g = g e f m t
