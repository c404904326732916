-- What landing does to lines that go on, to sizes and to the number of stores that wait.
use Rattle.std.proofs.Common.{◌≡◌, ℕ, ◌+◌, ◌≤◌, Bool, true, false, List, [], ◌∷◌, ◌++◌, length, sym, refl, ap, ◌∙◌, arith, length-set}
use Rattle.memory.specs.declared.Side.{Side}
use Rattle.memory.specs.declared.Side.TheVariants.{Feeder, Drawer}
use Rattle.memory.specs.Meaning.{Entry, store, Meaning, line, with_line, with_word, tidy, tidy_from, joined, stores, Out, here, past, Lands, Landings, none, next}
use Rattle.memory.proofs.Tidy.{tidy_store, tidy_more, tidy_front, stores_tidy}

-- the line of side s goes on with k
abbrev pub extended : Side → List Entry → Meaning → Meaning
extended s k m = with_line s (tidy (line s m ++ k)) m

-- what can land still can where the line goes on, and leaves the rest with what went on
pub out_on : {a w : ℕ} {l r : List Entry} (b : Bool) (k : List Entry) → Out a w l r → (x : List Entry) × Out a w (tidy_from b (l ++ k)) x × ((c : Bool) → tidy_from c x ≡ tidy_from c (r ++ k))
out_on true k (here {l = l}) = (tidy_from false (l ++ k), here, λ c. tidy_more c (l ++ k))
out_on false k (here {l = l}) = (tidy_from false (l ++ k), here, λ c. tidy_more c (l ++ k))
out_on true k (past {b = b} {v = v} {k = r} ne o) = let t = out_on false k o in (store b v ∷ t.0, past ne t.1, λ c. tidy_store c b v t.0 ∙ (ap (λ (z : List Entry). store b v ∷ z) (t.2 false) ∙ sym (tidy_store c b v (r ++ k))))
out_on false k (past {b = b} {v = v} {k = r} ne o) = let t = out_on false k o in (store b v ∷ t.0, past ne t.1, λ c. tidy_store c b v t.0 ∙ (ap (λ (z : List Entry). store b v ∷ z) (t.2 false) ∙ sym (tidy_store c b v (r ++ k))))

pub lands_on : (s t : Side) (k : List Entry) {a w : ℕ} {m n : Meaning} → Lands t a w m n → Lands t a w (extended s k m) (extended s k n)
lands_on Feeder Feeder k {a} {w} {m} h =
    let o = out_on true k h.out in
    record { rest = o.0; out = o.1; after = ap (extended Feeder k) h.after ∙ ap (λ (z : List Entry). with_line Feeder z (with_word a w m)) (tidy_front true h.rest k ∙ sym (o.2 true)) }
lands_on Drawer Drawer k {a} {w} {m} h =
    let o = out_on true k h.out in
    record { rest = o.0; out = o.1; after = ap (extended Drawer k) h.after ∙ ap (λ (z : List Entry). with_line Drawer z (with_word a w m)) (tidy_front true h.rest k ∙ sym (o.2 true)) }
lands_on Feeder Drawer k h = record { rest = h.rest; out = h.out; after = ap (extended Feeder k) h.after }
lands_on Drawer Feeder k h = record { rest = h.rest; out = h.out; after = ap (extended Drawer k) h.after }

pub landings_on : (s : Side) (k : List Entry) {m n : Meaning} → Landings m n → Landings (extended s k m) (extended s k n)
landings_on s k none = none
landings_on s k (next t a w h r) = next t a w (lands_on s t k h) (landings_on s k r)

pub landings_join : {m n o : Meaning} → Landings m n → Landings n o → Landings m o
landings_join none r = r
landings_join (next t a w h q) r = next t a w h (landings_join q r)

with_line_size : (s : Side) (l : List Entry) (m : Meaning) → length (with_line s l m).landed ≡ length m.landed
with_line_size Feeder l m = refl
with_line_size Drawer l m = refl

pub landings_size : {m n : Meaning} → Landings m n → length n.landed ≡ length m.landed
landings_size none = refl
landings_size {m} (next t a w h r) = landings_size r ∙ (ap (λ (z : Meaning). length z.landed) h.after ∙ (with_line_size t (tidy h.rest) (with_word a w m) ∙ length-set m.landed a w))

pub joined_size : (s : Side) (e : Entry) (m n : Meaning) → Landings (joined s e m) n → length n.landed ≡ length m.landed
joined_size s e m n h = landings_size h ∙ with_line_size s (tidy (line s m ++ (e ∷ []))) m

out_fewer : {a w : ℕ} {l r : List Entry} → Out a w l r → stores r + 1 ≡ stores l
out_fewer here = omega arith
out_fewer (past ne o) = let e = out_fewer o in omega arith

pub line_with : (s : Side) (l : List Entry) (m : Meaning) → line s (with_line s l m) ≡ l
line_with Feeder l m = refl
line_with Drawer l m = refl

pub lands_fewer : (s : Side) {a w : ℕ} {m n : Meaning} → Lands s a w m n → stores (line s n) + 1 ≡ stores (line s m)
lands_fewer s {a} {w} {m} h =
    let e = ap (λ (z : Meaning). stores (line s z)) h.after ∙ (ap stores (line_with s (tidy h.rest) (with_word a w m)) ∙ stores_tidy true h.rest) in
    let f = out_fewer h.out in omega arith

lands_no_more : (s t : Side) {a w : ℕ} {m n : Meaning} → Lands t a w m n → stores (line s n) ≤ stores (line s m)
lands_no_more Feeder Feeder h = let e = lands_fewer Feeder h in omega arith
lands_no_more Drawer Drawer h = let e = lands_fewer Drawer h in omega arith
lands_no_more Feeder Drawer {m = m} {n = n} h = let e : stores n.feeder ≡ stores m.feeder = ap (λ (z : Meaning). stores z.feeder) h.after in omega arith
lands_no_more Drawer Feeder {m = m} {n = n} h = let e : stores n.drawer ≡ stores m.drawer = ap (λ (z : Meaning). stores z.drawer) h.after in omega arith

pub never_more : (s : Side) {m n : Meaning} → Landings m n → stores (line s n) ≤ stores (line s m)
never_more s none = omega arith
never_more s (next t a w h r) = let e = lands_no_more s t h in let f = never_more s r in omega arith
