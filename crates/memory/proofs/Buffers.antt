-- The store buffer keeps the rules, above any memory that keeps them.
use Rattle.std.proofs.Common.{◌≡◌, ℕ, zero, suc, ◌+◌, ◌-◌, ◌^◌, ◌<◌, ◌≤◌, min, Bool, true, cond, List, [], ◌∷◌, ◌++◌, length, get_or, drop, None, Ok, Err, Option, Result, unwrap_or, sym, refl, ap, ◌∙◌, subst, append_assoc, add-one, arith, le-ltb, lt-ltb, MatchResult}
use Rattle.std.proofs.lemmas.List.{drop_all, drop-drop}
use Rattle.memory.specs.declared.NoAddress.{NoAddress}
use Rattle.memory.specs.declared.Side.{Side}
use Rattle.memory.specs.declared.Side.TheVariants.{Feeder, Drawer}
use Rattle.memory.specs.declared.Memory.{Ghosts}
use Rattle.memory.specs.declared.entry.Entry.{Entry as Kept}
use Rattle.memory.specs.declared.buffer.Buffer.{Buffer}
use Rattle.memory.specs.Meaning.{Entry, store, bar, Meaning, line, look, words_to, last_or, stores, joined, tidy, Call, Size, Look, Count, Store, Bar, Land, Drain, Rule, Made, NoPlace, Landings, none}
use Rattle.memory.specs.Entries.{own, newest}
use Rattle.memory.specs.Buffer.{Parts, parts, mine, with_mine, with_below, over, Does, Sent, stored, refused, SendsOne, Sends, more, Room, found, made, Joins, Looks, own_store, looks_below, Counts, LandsBelow, waits_below, no_store, sends, DrainsBelow, Stores, BufferCall, above}
use Rattle.memory.specs.Buffer as B
use Rattle.memory.proofs.Tidy.{tidy_front, words-++, words_tidy, last-++, stores-++, stores_tidy}
use Rattle.memory.proofs.Landing.{extended, landings_on, landings_join, landings_size, joined_size, never_more}
use Rattle.memory.proofs.Entries.{own-++, own_seen, through_none, through_one}

abbrev other : Side → Side
other Feeder = Drawer
other Drawer = Feeder

-- the lines of both sides go on, that of side s with k and the other with j
abbrev both : Side → List Entry → List Entry → Meaning → Meaning
both s k j m = extended s k (extended (other s) j m)

-- the same, by the entries of a buffer
abbrev over_s : Side → List Kept → List Kept → Meaning → Meaning
over_s s l o m = both s (own (length m.landed) l) (own (length m.landed) o) m

goes_on : (s : Side) (e : Entry) (k j : List Entry) (m : Meaning) → both s k j (joined s e m) ≡ both s (e ∷ k) j m
goes_on Feeder e k j m = ap (λ (z : List Entry). record { landed = m.landed; feeder = z; drawer = tidy (m.drawer ++ j) }) (tidy_front true (m.feeder ++ (e ∷ [])) k ∙ ap tidy (append_assoc m.feeder (e ∷ []) k))
goes_on Drawer e k j m = ap (λ (z : List Entry). record { landed = m.landed; feeder = tidy (m.feeder ++ j); drawer = z }) (tidy_front true (m.drawer ++ (e ∷ [])) k ∙ ap tidy (append_assoc m.drawer (e ∷ []) k))

-- what joins the line below leaves the buffer's own line
passes : (s : Side) (e : Entry) (q : Kept) (l o : List Kept) (m n : Meaning) → own (length m.landed) (q ∷ []) ≡ e ∷ [] → Landings (joined s e m) n → Landings (over_s s (q ∷ l) o m) (over_s s l o n)
passes s e q l o m n h g =
    let w = length m.landed in
    let a : own w (q ∷ l) ≡ e ∷ own w l = own-++ w (q ∷ []) l ∙ ap (λ (z : List Entry). z ++ own w l) h in
    let p : Landings (both s (e ∷ own w l) (own w o) m) (both s (own w l) (own w o) n) = subst (λ (z : Meaning). Landings z (both s (own w l) (own w o) n)) (goes_on s e (own w l) (own w o) m) (landings_on s (own w l) (landings_on (other s) (own w o) g)) in
    subst (λ (z : List Entry). Landings (both s z (own w o) m) (over_s s l o n)) (sym a)
    (subst (λ (z : ℕ). Landings (both s (e ∷ own w l) (own w o) m) (both s (own z l) (own z o) n)) (sym (joined_size s e m n g)) p)

own_valid : (n a w : ℕ) → a < n → own n (Kept.Store a w ∷ []) ≡ store a w ∷ []
own_valid n a w h = ap (λ (b : Bool). cond b (store a w ∷ []) []) (lt-ltb a n h)

own_invalid : (n a w : ℕ) (l : List Kept) → n ≤ a → own n (Kept.Store a w ∷ l) ≡ own n l
own_invalid n a w l h = ap (λ (b : Bool). cond b (store a w ∷ own n l) (own n l)) (le-ltb a n h)

-- an entry that joins the buffer's own line joins the line
joins_own : (s : Side) (e : Entry) (q : Kept) (l o : List Kept) (m : Meaning) → own (length m.landed) (q ∷ []) ≡ e ∷ [] → joined s e (over_s s l o m) ≡ over_s s (l ++ (q ∷ [])) o m
joins_own s e q l o m h = go s
  where
    longer : (k : List Entry) → tidy (tidy (k ++ own (length m.landed) l) ++ (e ∷ [])) ≡ tidy (k ++ own (length m.landed) (l ++ (q ∷ [])))
    longer k = tidy_front true (k ++ own (length m.landed) l) (e ∷ []) ∙ ap tidy (append_assoc k (own (length m.landed) l) (e ∷ []) ∙ ap (λ (z : List Entry). k ++ z) (sym (own-++ (length m.landed) l (q ∷ []) ∙ ap (λ (z : List Entry). own (length m.landed) l ++ z) h)))

    go : (t : Side) → joined t e (over_s t l o m) ≡ over_s t (l ++ (q ∷ [])) o m
    go Feeder = ap (λ (z : List Entry). record { landed = m.landed; feeder = z; drawer = tidy (m.drawer ++ own (length m.landed) o) }) (longer m.feeder)
    go Drawer = ap (λ (z : List Entry). record { landed = m.landed; feeder = tidy (m.feeder ++ own (length m.landed) o); drawer = z }) (longer m.drawer)

line_over : (s : Side) (l o : List Kept) (m : Meaning) → line s (over_s s l o m) ≡ tidy (line s m ++ own (length m.landed) l)
line_over Feeder l o m = refl
line_over Drawer l o m = refl

-- landing below lands above
lands_over : (s : Side) (l o : List Kept) (m n : Meaning) → Landings m n → Landings (over_s s l o m) (over_s s l o n)
lands_over s l o m n h = subst (λ (z : ℕ). Landings (over_s s l o m) (both s (own z l) (own z o) n)) (sym (landings_size h)) (landings_on s (own (length m.landed) l) (landings_on (other s) (own (length m.landed) o) h))

capped : (a b : ℕ) → min (min a (2 ^ 64 - 1) + b) (2 ^ 64 - 1) ≡ min (a + b) (2 ^ 64 - 1)
capped a b = omega arith

gone : (a b : ℕ) → a ≤ 1 → b ≤ a → (0 < a → b < a) → b ≡ 0
gone zero b h k f = omega arith
gone (suc a) b h k f = omega (arith, f (omega arith))

more_capped : (a : ℕ) → 0 < min a (2 ^ 64 - 1) → 0 < a
more_capped a e = omega arith

module _ {X : Type 0} (G : Ghosts X) where
  abbrev size_of : X → ℕ
  size_of x = length (G.meaning x).landed

  is_over : (s : Side) (b : Parts X) → above G b ≡ over_s s (mine s b) (mine (other s) b) (G.meaning b.below)
  is_over Feeder b = refl
  is_over Drawer b = refl

  other_with : (s : Side) (l : List Kept) (b : Parts X) → mine (other s) (with_mine s l b) ≡ mine (other s) b
  other_with Feeder l b = refl
  other_with Drawer l b = refl

  -- below nothing changed, and neither does the meaning
  same_above : (b c : Parts X) → c ≡ with_below c.below b → G.meaning c.below ≡ G.meaning b.below → above G c ≡ above G b
  same_above b c e h = ap (above G) e ∙ ap (over b.feeder b.drawer) h

  with_over : (s : Side) (l : List Kept) (b : Parts X) → above G (with_mine s l b) ≡ over_s s l (mine (other s) b) (G.meaning b.below)
  with_over Feeder l b = refl
  with_over Drawer l b = refl

  sent_rule : (s : Side) (q : Kept) (l o : List Kept) (x y : X) → Sent G s q x y → Landings (over_s s (q ∷ l) o (G.meaning x)) (over_s s l o (G.meaning y))
  sent_rule s Kept.Bar l o x y r = passes s bar Kept.Bar l o (G.meaning x) (G.meaning y) refl r.rule
  sent_rule s (Kept.Store a w) l o x y (stored r) = passes s (store a w) (Kept.Store a w) l o (G.meaning x) (G.meaning y) (own_valid (size_of x) a w r.rule.0) r.rule.1
  sent_rule s (Kept.Store a w) l o x y (refused h r) =
      subst (λ (z : Meaning). Landings (over_s s (Kept.Store a w ∷ l) o (G.meaning x)) (over_s s l o z)) (sym r)
      (subst (λ (z : List Entry). Landings (both s z (own (size_of x) o) (G.meaning x)) (over_s s l o (G.meaning x))) (sym (own_invalid (size_of x) a w l h)) none)

  one_other : (s : Side) (b c : Parts X) → SendsOne G s b c → mine (other s) c ≡ mine (other s) b
  one_other s b c h = ap (mine (other s)) h.rest ∙ other_with s (mine s c) (with_below c.below b)

  one_rule : (s : Side) (b c : Parts X) → SendsOne G s b c → Landings (above G b) (above G c)
  one_rule s b c h =
      let from : above G b ≡ over_s s (h.oldest ∷ mine s c) (mine (other s) b) (G.meaning b.below) = is_over s b ∙ ap (λ (z : List Kept). over_s s z (mine (other s) b) (G.meaning b.below)) h.was in
      let to : above G c ≡ over_s s (mine s c) (mine (other s) b) (G.meaning c.below) = is_over s c ∙ ap (λ (z : List Kept). over_s s (mine s c) z (G.meaning c.below)) (one_other s b c h) in
      subst (λ (z : Meaning). Landings z (above G c)) (sym from) (subst (λ (z : Meaning). Landings (over_s s (h.oldest ∷ mine s c) (mine (other s) b) (G.meaning b.below)) z) (sym to) (sent_rule s h.oldest (mine s c) (mine (other s) b) b.below c.below h.sent))

  sends_rule : (s : Side) (b : Parts X) {n : ℕ} {c : Parts X} → Sends G s b n c → Landings (above G b) (above G c)
  sends_rule s b B.none = none
  sends_rule s b (more {c = c} {d = d} h o) = landings_join (sends_rule s b h) (one_rule s c d o)

  sends_drop : (s : Side) (b : Parts X) {n : ℕ} {c : Parts X} → Sends G s b n c → mine s c ≡ drop n (mine s b)
  sends_drop s b B.none = refl
  sends_drop s b (more {n = n} {c = c} {d = d} h o) = ap (drop 1) (sym o.was ∙ sends_drop s b h) ∙ (drop-drop 1 n (mine s b) ∙ ap (λ (k : ℕ). drop k (mine s b)) (add-one n))

  sends_other : (s : Side) (b : Parts X) {n : ℕ} {c : Parts X} → Sends G s b n c → mine (other s) c ≡ mine (other s) b
  sends_other s b B.none = refl
  sends_other s b (more {c = c} {d = d} h o) = one_other s c d o ∙ sends_other s b h

  pub sends_length : (s : Side) (b : Parts X) {n : ℕ} {c : Parts X} → Sends G s b n c → length (mine s c) + n ≡ length (mine s b)
  sends_length s b B.none = omega arith
  sends_length s b (more {c = c} {d = d} h o) = let e = sends_length s b h in let f = ap length o.was in omega arith

  room_rule : (s : Side) (b c : Parts X) → Room G s b c → Landings (above G b) (above G c)
  room_rule s b c (found h e) = subst (λ (z : Parts X). Landings (above G b) (above G z)) (sym e) none
  room_rule s b c (made h o) = one_rule s b c o

  join_rule : (s : Side) (e : Entry) (q : Kept) (b c : Parts X) → own (size_of b.below) (q ∷ []) ≡ e ∷ [] → Joins G s q b c → Landings (joined s e (above G b)) (above G c)
  join_rule s e q b c h j =
      let m = j.roomy in
      let d = room_rule s b m j.room in
      let k : joined s e (above G m) ≡ above G c = ap (joined s e) (is_over s m) ∙ (joins_own s e q (mine s m) (mine (other s) m) (G.meaning m.below) (ap (λ (z : ℕ). own z (q ∷ [])) (landings_size d) ∙ h) ∙ sym (ap (above G) j.after ∙ with_over s (mine s m ++ (q ∷ [])) m)) in
      subst (λ (z : Meaning). Landings (joined s e (above G b)) z) k (landings_on s (e ∷ []) d)

  -- a look above is a look among the entries, and otherwise below
  look_over : (s : Side) (a : ℕ) (b : Parts X) → a < size_of b.below → look s a (above G b) ≡ unwrap_or (newest a (mine s b)) (look s a (G.meaning b.below))
  look_over s a b h =
      let m = G.meaning b.below in let d = get_or m.landed a 0 in let o = own (size_of b.below) (mine s b) in
      ap (λ (z : Meaning). last_or (words_to a (line s z)) d) (is_over s b)
      ∙ (ap (λ (z : List Entry). last_or (words_to a z) d) (line_over s (mine s b) (mine (other s) b) m)
      ∙ (ap (λ (z : List ℕ). last_or z d) (words_tidy a true (line s m ++ o) ∙ words-++ a (line s m) o)
      ∙ (last-++ (words_to a (line s m)) (words_to a o) d ∙ own_seen (size_of b.below) a (look s a m) (mine s b) h)))

  look_rule : (s : Side) (a w : ℕ) (b c : Parts X) → Looks G s a w b c → Rule (Look s a w) (above G b) (above G c)
  look_rule s a w b c (own_store {n} h e r g) =
      let within : a < size_of b.below = subst (λ (z : ℕ). a < z) r.rule.0 h in
      (within, sym (look_over s a b within ∙ ap (λ (o : Option ℕ). unwrap_or o (look s a (G.meaning b.below))) e), same_above b c g r.rule.1)
  look_rule s a w b c (looks_below {n} {z} e r g f) =
      let within : a < size_of b.below = subst (λ (m : Meaning). a < length m.landed) r.rule.1 g.rule.0 in
      (within, g.rule.1 ∙ (ap (look s a) r.rule.1 ∙ sym (look_over s a b within ∙ ap (λ (o : Option ℕ). unwrap_or o (look s a (G.meaning b.below))) e)), same_above b c f (g.rule.2 ∙ r.rule.1))

  all_stores : (s : Side) (b : Parts X) → stores (line s (above G b)) ≡ stores (line s (G.meaning b.below)) + stores (own (size_of b.below) (mine s b))
  all_stores s b =
      let m = G.meaning b.below in let o = own (size_of b.below) (mine s b) in
      ap (λ (z : Meaning). stores (line s z)) (is_over s b) ∙ (ap stores (line_over s (mine s b) (mine (other s) b) m) ∙ (stores_tidy true (line s m ++ o) ∙ stores-++ (line s m) o))

  count_rule : (s : Side) (n : ℕ) (b c : Parts X) → Counts G s n b c → Rule (Count s n) (above G b) (above G c)
  count_rule s n b c h =
      let r = h.sized.rule in let g = h.counted.rule in
      let below : h.waiting ≡ min (stores (line s (G.meaning b.below))) (2 ^ 64 - 1) = g.0 ∙ ap (λ (z : Meaning). min (stores (line s z)) (2 ^ 64 - 1)) r.1 in (
        h.total ∙ (ap (λ (z : ℕ). min (h.waiting + stores (own z (mine s b))) (2 ^ 64 - 1)) r.0 ∙ (ap (λ (z : ℕ). min (z + stores (own (size_of b.below) (mine s b))) (2 ^ 64 - 1)) below ∙ (capped _ _ ∙ sym (ap (λ (z : ℕ). min z (2 ^ 64 - 1)) (all_stores s b))))),
        same_above b c h.same (g.1 ∙ r.1),
      )

  none_counted : (s : Side) (n : ℕ) (x z : X) → Does G (Count s n) x z → n ≤ 0 → stores (line s (G.meaning x)) ≡ 0
  none_counted s n x z d h = let e = d.rule.0 in omega arith

  below_lands : (b c : Parts X) → c ≡ with_below c.below b → Landings (G.meaning b.below) (G.meaning c.below) → Landings (above G b) (above G c)
  below_lands b c e h =
      subst (λ (z : Meaning). Landings z (above G c)) (sym (is_over Feeder b))
      (subst (λ (z : Meaning). Landings (over_s Feeder b.feeder b.drawer (G.meaning b.below)) z) (sym (ap (above G) e)) (lands_over Feeder b.feeder b.drawer (G.meaning b.below) (G.meaning c.below) h))

  mine_same : (s : Side) (b c : Parts X) → c ≡ with_below c.below b → mine s c ≡ mine s b
  mine_same s b c e = ap (mine s) e

  land_rule : (s : Side) (k : ℕ) (b c : Parts X) → LandsBelow G s k b c → Rule (Land s k) (above G b) (above G c)
  land_rule s k b c (waits_below {n} {z} r h g e) =
      let m = G.meaning b.below in
      let lands : Landings m (G.meaning c.below) = subst (λ (w : Meaning). Landings w (G.meaning c.below)) r.rule.1 g.rule.0 in
      let less : 0 < stores (line s m) → stores (line s (G.meaning c.below)) < stores (line s m) = subst (λ (w : Meaning). 0 < stores (line s w) → stores (line s (G.meaning c.below)) < stores (line s w)) r.rule.1 g.rule.1 in
      let waiting : 0 < stores (line s m) = more_capped _ (subst (λ (w : ℕ). 0 < w) r.rule.0 h) in
      let kept : stores (own (size_of c.below) (mine s c)) ≡ stores (own (size_of b.below) (mine s b)) = ap (λ (w : List Kept). stores (own (size_of c.below) w)) (mine_same s b c e) ∙ ap (λ (w : ℕ). stores (own w (mine s b))) (landings_size lands) in
      (below_lands b c e lands, λ _. omega (arith, less waiting, kept, all_stores s b, all_stores s c))
  land_rule s k b c (no_store {n} {t} {z} r v h w) =
      let start = with_below h.between b in
      let same : above G start ≡ above G b = ap (over b.feeder b.drawer) (h.sized.rule.1 ∙ r.rule.1) in
      let size : h.size ≡ size_of b.below = h.sized.rule.0 ∙ ap (λ (m : Meaning). length m.landed) r.rule.1 in
      let kept : stores (own (size_of b.below) (mine s b)) ≡ 0 = ap (λ (i : ℕ). stores (own i (mine s b))) (sym size) ∙ through_none h.size (mine s b) (let e : t ≡ 0 = omega arith in sym h.first ∙ e) in
      (subst (λ (m : Meaning). Landings m (above G c)) same (sends_rule s start h.sent), λ p. absurd (omega (arith, all_stores s b, none_counted s n b.below z r v, kept, p)))
  land_rule s k b c (sends {n} {t} {z} {m} r v h w f e) =
      let y = h.between in let start = with_below y b in
      let below : G.meaning y ≡ G.meaning b.below = h.sized.rule.1 ∙ r.rule.1 in
      let same : above G start ≡ above G b = ap (over b.feeder b.drawer) below in
      let d = sends_rule s start h.sent in
      let size : h.size ≡ size_of y = h.sized.rule.0 ∙ ap (λ (u : Meaning). length u.landed) (sym h.sized.rule.1) in
      let empty : stores (line s (G.meaning y)) ≡ 0 = ap (λ (u : Meaning). stores (line s u)) below ∙ none_counted s n b.below z r v in
      let one : stores (own (size_of y) (mine s b)) ≡ 1 + stores (own (size_of y) (mine s m)) =
      subst (λ (i : ℕ). stores (own i (mine s b)) ≡ 1 + stores (own i (drop t (mine s b)))) size
      (subst (λ (j : ℕ). stores (own h.size (mine s b)) ≡ 1 + stores (own h.size (drop j (mine s b)))) (sym h.first) (through_one h.size (mine s b) (subst (λ (j : ℕ). 0 < j) h.first w)))
      ∙ ap (λ (l : List Kept). 1 + stores (own (size_of y) l)) (sym (sends_drop s start h.sent)) in
      let kept_m : stores (own (size_of m.below) (mine s m)) ≡ stores (own (size_of y) (mine s m)) = ap (λ (u : ℕ). stores (own u (mine s m))) (landings_size d) in
      let few : stores (line s (G.meaning m.below)) ≤ 1 = omega (arith, never_more s d, all_stores s start, all_stores s m, one, kept_m, empty) in
      let gone_c : stores (line s (G.meaning c.below)) ≡ 0 = gone (stores (line s (G.meaning m.below))) (stores (line s (G.meaning c.below))) few (never_more s f.rule.0) f.rule.1 in
      let kept_c : stores (own (size_of c.below) (mine s c)) ≡ stores (own (size_of m.below) (mine s m)) = ap (λ (l : List Kept). stores (own (size_of c.below) l)) (mine_same s m c e) ∙ ap (λ (u : ℕ). stores (own u (mine s m))) (landings_size f.rule.0) in (
        subst (λ (u : Meaning). Landings u (above G c)) same (landings_join d (below_lands m c e f.rule.0)),
        λ _. omega (arith, ap (λ (u : Meaning). stores (line s u)) same, all_stores s start, all_stores s c, one, gone_c, kept_c, kept_m),
      )

  drain_rule : (b c : Parts X) → DrainsBelow G b c → Rule Drain (above G b) (above G c)
  drain_rule b c h =
      let no_feeder : h.fed.feeder ≡ [] = sends_drop Feeder b h.feeder_sent ∙ drop_all (length b.feeder) b.feeder (omega arith) in
      let no_drawer : h.drawn.drawer ≡ [] = sends_drop Drawer h.fed h.drawer_sent ∙ drop_all (length h.fed.drawer) h.fed.drawer (omega arith) in
      let c_feeder : c.feeder ≡ [] = ap (λ (z : Parts X). z.feeder) h.same ∙ (sends_other Drawer h.fed h.drawer_sent ∙ no_feeder) in
      let c_drawer : c.drawer ≡ [] = ap (λ (z : Parts X). z.drawer) h.same ∙ no_drawer in
      let at : above G c ≡ over [] [] (G.meaning c.below) = ap (λ (w : List Kept). over w c.drawer (G.meaning c.below)) c_feeder ∙ ap (λ (w : List Kept). over [] w (G.meaning c.below)) c_drawer in (
        landings_join (sends_rule Feeder b h.feeder_sent) (landings_join (sends_rule Drawer h.fed h.drawer_sent) (below_lands h.drawn c h.same h.drained.rule.0)),
        ap (λ (w : Meaning). w.feeder) at ∙ ap (λ (w : List Entry). tidy (w ++ [])) h.drained.rule.1,
        ap (λ (w : Meaning). w.drawer) at ∙ ap (λ (w : List Entry). tidy (w ++ [])) h.drained.rule.2,
      )

  store_rule : (s : Side) (a w : ℕ) (b c : Parts X) → Stores G s a w b c → Rule (Store s a w) (above G b) (above G c)
  store_rule s a w b c h =
      let r = h.sized.rule in
      let within : a < size_of b.below = subst (λ (z : ℕ). a < z) r.0 h.within in
      let same : above G (with_below h.between b) ≡ above G b = ap (over b.feeder b.drawer) r.1 in
      (within, subst (λ (z : Meaning). Landings (joined s (store a w) z) (above G c)) same (join_rule s (store a w) (Kept.Store a w) (with_below h.between b) c (own_valid (size_of h.between) a w (subst (λ (m : Meaning). a < length m.landed) (sym r.1) within)) h.joins))

  buffer_rules : (k : Call) (b c : Parts X) → BufferCall G k b c → Rule k (above G b) (above G c)
  buffer_rules (Size n) b c h = (h.0.rule.0, same_above b c h.1 h.0.rule.1)
  buffer_rules (Look s a w) b c h = look_rule s a w b c h
  buffer_rules (Count s n) b c h = count_rule s n b c h
  buffer_rules (Store s a w) b c h = store_rule s a w b c h
  buffer_rules (Bar s) b c h = join_rule s bar Kept.Bar b c refl h
  buffer_rules (Land s k) b c h = land_rule s k b c h
  buffer_rules Drain b c h = drain_rule b c h

  -- a call that does exactly this keeps the rules
  pub buffer_made : (k : Call) (x y : Buffer X) → BufferCall G k (parts x) (parts y) → Made (λ z. above G (parts z)) (λ j u v. BufferCall G j (parts u) (parts v)) k x y
  buffer_made k x y h = record { call = h; rule = buffer_rules k (parts x) (parts y) h }

  -- a look that finds no own store gives the answer from below
  pub looked_below : (s : Side) (a n : ℕ) (x u : Buffer X) (z : X) (r : Result ℕ NoAddress) → newest a (mine s (parts x)) ≡ None → Does G (Size n) x.below z → MatchResult r (λ w. Does G (Look s a w) z u.below) (λ e. NoPlace G.meaning a e.address z u.below) → parts u ≡ with_below u.below (parts x) → MatchResult r (λ w. Made (λ v. above G (parts v)) (λ j p q. BufferCall G j (parts p) (parts q)) (Look s a w) x u) (λ e. NoPlace (λ v. above G (parts v)) a e.address x u)
  looked_below s a n x u z (Ok w) e t h b = buffer_made (Look s a w) x u (looks_below e t h b)
  looked_below s a n x u z (Err f) e t h b = record { beyond = subst (λ (m : Meaning). length m.landed ≤ a) t.rule.1 h.beyond; names = h.names; same = ap (above G) b ∙ ap (over (parts x).feeder (parts x).drawer) (h.same ∙ t.rule.1) }
