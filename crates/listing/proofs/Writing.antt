-- Texts written at the start of a place, one behind the other.
use Rattle.std.proofs.Common.{◌≡◌, ℕ, ◌+◌, ◌-◌, ◌≤◌, List, [], ◌++◌, length, take, drop, sym, ap, ◌∙◌, subst, arith}
use borrow.Rule.Slice.PartMut.{put_mid}
use Rattle.std.proofs.lemmas.List.{append_assoc, append-nil, length-append, drop-drop, drop_at, drop_all, take_at, take_rest, length-drop}
use Rattle.listing.specs.Places.{Written}

-- one text behind another, written into the part that begins at its end
pub text_more : {t p before after part : List ℕ} {n k : ℕ} → Written t before after n → n ≤ length after → Written p (take (length after - n) (drop n after)) part k → Written (t ++ p) before (put_mid n (length after - n) after part) (n + k)
text_more {t} {p} {before} {after} {part} {n} {k} w h v =
    let l : length (t ++ p) ≡ length t + length p = length-append t p in
    let m : take n after ≡ t = ap (take n) w.bytes ∙ take_at t _ n (sym w.counted) in
    let d : drop n after ≡ drop (length t) before = ap (drop n) w.bytes ∙ drop_at t _ n (sym w.counted) in
    let e : part ≡ p ++ drop (length t + length p) before = v.bytes ∙ ap (λ x. p ++ drop (length p) x) (take_rest after n ∙ d) ∙ ap (λ x. p ++ x) (drop-drop (length p) (length t) before) in
    let z : drop (length after - n) (drop n after) ≡ [] = drop_all (length after - n) (drop n after) (omega (arith, length-drop n after)) in
    record {
      counted = omega (arith, l, w.counted, v.counted);
      bytes = ap (λ x. x ++ (part ++ drop (length after - n) (drop n after))) m ∙ ap (λ x. t ++ (part ++ x)) z ∙ ap (λ x. t ++ x) (append-nil part) ∙ ap (λ x. t ++ x) e ∙ sym (append_assoc t p (drop (length t + length p) before)) ∙ ap (λ i. (t ++ p) ++ drop i before) (sym l);
    }

pub same_text : {t p before after : List ℕ} {n : ℕ} → t ≡ p → Written t before after n → Written p before after n
same_text {t} {p} {before} {after} {n} e w = subst (λ (x : List ℕ). Written x before after n) e w
