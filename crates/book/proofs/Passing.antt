-- What checks that refuse nothing say of the book.
use Rattle.std.proofs.Common.{◌≡◌, ℕ, ◌%◌, ◌≤◌, Bool, true, false, cond, ◌&&◌, leb, List, [], ◌∷◌, length, get_or, drop, Some, None, Option, refl, subst, arith, eqb-true, leb-true, sym}
use Rattle.listing.specs.declared.lines.Refusal.{Refusal}
use Rattle.std.proofs.lemmas.Bool.{false≢true}
use Rattle.std.proofs.lemmas.Option.{none-some}
use Rattle.book.specs.Checks.{Check, first_refusal}
use Rattle.book.specs.Layout.{WellLaidOut, header_checks, layout_of, stop}
use Rattle.book.specs.Settings.{settings_checks, Settled, SettingsInRange, entries_of, from_to}
use Rattle.book.specs.Plans.{Planned}
use Rattle.book.specs.declared.header.Layout.{Layout}
use Rattle.book.specs.declared.settings.Settings.{Settings}

-- every check holds
abbrev Passed : List Check → Type 0
Passed [] = Unit {0}
Passed (c ∷ cs) = (c.holds ≡ true) × Passed cs

both : (b : Bool) (q : Refusal) (x : Option Refusal) (P : Type 0) → (x ≡ None → P) → cond b x (Some q) ≡ None → (b ≡ true) × P
both true q x P f e = (refl, f e)
both false q x P f e = absurd (none-some q (sym e))

passed : (cs : List Check) → first_refusal cs ≡ None → Passed cs
passed [] e = tt
passed (c ∷ cs) e = both c.holds c.refusal (first_refusal cs) (Passed cs) (passed cs) e

pub well_laid_out : (book : List ℕ) → first_refusal (header_checks book) ≡ None → WellLaidOut (length book) (layout_of book)
well_laid_out book e =
    let l = layout_of book in
    let a = passed (header_checks book) e in
    let s = a.1.1.1 in
    let w = s.1.1.1 in
    let m = w.1.1.1 in
    record {
      few = leb-true (length book) 65536 a.0;
      settings_start = leb-true 25 l.settings.offset s.0;
      settings_size = eqb-true l.settings.size 5 s.1.1.0;
      words_start = leb-true (stop l.settings) l.words.offset w.0;
      words_whole = eqb-true (l.words.size % 8) 0 w.1.1.0;
      moves_start = leb-true (stop l.words) l.moves.offset m.0;
      moves_end = leb-true (stop l.moves) (length book) m.1.0;
    }

both_true : (a b : Bool) → a && b ≡ true → (a ≡ true) × (b ≡ true)
both_true true b e = (refl, e)
both_true false b e = absurd (false≢true e)

ranged : (low high n k : ℕ) → from_to low high n ≡ true → k ≡ n → (low ≤ k) × (k ≤ high)
ranged low high n k e s =
    let h = both_true (leb low n) (leb n high) e in
    (omega (arith, leb-true low n h.0), omega (arith, leb-true n high h.1))

pub in_range : (b : List ℕ) (at : ℕ) (s : Settings) → first_refusal (settings_checks b at) ≡ None → Settled b s → SettingsInRange s
in_range b at s e w =
    let p = passed (settings_checks b at) e in
    record {
      rings = ranged 2 8 (get_or b 1 0) s.rings p.1.0 w.rings;
      cells = ranged 1 64 (get_or b 2 0) s.cells p.1.1.0 w.cells;
      depth = (ranged 0 16 (get_or b 4 0) (entries_of s.depth) p.1.1.1.1.0 w.depth).1;
    }

pub planned : (book : List ℕ) (l : Layout) (s : Settings) → first_refusal (header_checks book) ≡ None → l ≡ layout_of book → first_refusal (settings_checks (drop l.settings.offset book) l.settings.offset) ≡ None → Settled (drop l.settings.offset book) s → Planned book record { layout = l; settings = s }
planned book l s n e h w = record {
  layout = e;
  laid_out = well_laid_out book n;
  settled = subst (λ (x : Layout). Settled (drop x.settings.offset book) s) e w;
  in_range = in_range (drop l.settings.offset book) l.settings.offset s h w;
}
