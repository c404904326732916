-- The hand-over on the loose memory, move by move.
use Rattle.std.proofs.Common.{◌≡◌, ℕ, ◌<◌, List, [], ◌∷◌, ◌++◌, length, get_or, take, drop, set, None, Option, sym, ap, ◌∙◌, subst, ⊎_elim, arith, get_or-set_same}
use Rattle.std.proofs.lemmas.List.{drop_all}
use Rattle.std.proofs.lemmas.Int.{ints}
use Rattle.memory.specs.declared.Side.{Side}
use Rattle.memory.specs.declared.Side.TheVariants.{Feeder, Drawer}
use Rattle.memory.specs.declared.loose.Loose.{Loose}
use Rattle.memory.specs.Meaning.{Entry, store, bar, Meaning, line, with_line, with_word, tidy, stores, look, joined, Look, Store, Bar, Land}
use Rattle.memory.specs.Line.{ready}
use Rattle.memory.specs.Loose as loosely
use Rattle.memory.specs.Loose.{loose_meaning, Room, Landed, Picked}
use Rattle.words.specs.declared.edits.Edit.{Edit}
use Rattle.words.specs.Words.{edit_word}
use Rattle.words.specs.Layouts.{same_edit_word}
use Rattle.lane.specs.declared.answers.Ended.{Ended}
use Rattle.lane.specs.declared.answers.PutAnswer.{PutAnswer}
use Rattle.lane.specs.declared.answers.PutAnswer.TheVariants.{Accepted}
use Rattle.lane.specs.declared.answers.TakeAnswer.{TakeAnswer}
use Rattle.lane.specs.declared.answers.TakeAnswer.TheVariants.{Empty}
use Rattle.lane.specs.Hands as hands
use Rattle.lane.specs.Hands.{first_places}
use Rattle.lane.specs.declared.sides.Put.{Put as PutStage}
use Rattle.lane.specs.declared.sides.Put.TheVariants as put
use Rattle.lane.specs.declared.sides.Take.{Take as TakeStage}
use Rattle.lane.specs.declared.sides.Take.TheVariants as take
use Rattle.lane.specs.Calls.{Makes}
use Rattle.lane.specs.Layout.{own_on}
use Rattle.lane.specs.Moments.{Moment, PutStep, TakeStep, fed, drawn}
use Rattle.lane.specs.Stages.{putting, taking}
use Rattle.lane.proofs.Underway.{no_both}
use Rattle.queue.specs.declared.moves.Move.TheVariants.{Draw}
use Rattle.queue.specs.declared.moves.Said.{Said}
use Rattle.queue.specs.declared.moves.Said.TheVariants.{Put, Take}
use Rattle.queue.specs.History as history
use Rattle.queue.specs.History.{Event, Leads}
use Rattle.queue.specs.Plays as plays
use Rattle.queue.specs.Plays.{Plays, PlayedAsPromised, put_said, take_said}
use Rattle.queue.specs.Waiting.{NothingWaits, landed_word, size}
use Rattle.queue.proofs.Opens.{opens_lane}
use Rattle.examples.specs.LooseHandOver.{loose, edits, hand_over, told, LooseHandOver}
use Rattle.examples.proofs.TableRows.{put_gives, take_gives}

-- these words have landed, and these stores of the feeder wait
abbrev waits : List ℕ → List Entry → Meaning
waits words entries = record { landed = words; feeder = entries; drawer = [] }

-- the first entry of a line, and what stands behind it
abbrev address_of : List Entry → ℕ
address_of [] = 0
address_of (bar ∷ l) = 0
address_of (store a w ∷ l) = a

abbrev word_of : List Entry → ℕ
word_of [] = 0
word_of (bar ∷ l) = 0
word_of (store a w ∷ l) = w

abbrev behind : List Entry → List Entry
behind [] = []
behind (e ∷ l) = l

none_in_none : (k : List Entry) (e : Entry) (l : List Entry) → [] ≡ k ++ (e ∷ l) → ⊥
none_in_none [] e l h = let k = ap length h in omega (arith, k)
none_in_none (o ∷ k) e l h = let k = ap length h in omega (arith, k)

-- a store that goes out of a line of one store is that store
lone : (a w b v : ℕ) (older younger : List Entry) → store a w ∷ [] ≡ older ++ (store b v ∷ younger) → (b ≡ a) × (v ≡ w) × (older ++ younger ≡ [])
lone a w b v [] younger h = (sym (ap address_of h), sym (ap word_of h), sym (ap behind h))
lone a w b v (o ∷ older) younger h = absurd (none_in_none older (store b v) younger (ap behind h))

module _ (words : List ℕ) where
  seen : (s : Side) (a w : ℕ) (x y : Loose) (entries : List Entry) → loose_meaning x ≡ waits words entries → Makes loose (Look s a w) x y → (w ≡ look s a (waits words entries)) × (loose_meaning y ≡ waits words entries)
  seen s a w x y entries m h = (h.call.0.1 ∙ ap (look s a) m, h.call.0.2 ∙ m)

  barred : (x y : Loose) → loose_meaning x ≡ waits words [] → Makes loose (Bar Feeder) x y → loose_meaning y ≡ waits words []
  barred x y m h = h.call.0 ∙ ap (joined Feeder bar) m

  stored : (a w : ℕ) (x y : Loose) → loose_meaning x ≡ waits words [] → Makes loose (Store Feeder a w) x y → loose_meaning y ≡ waits words (store a w ∷ [])
  stored a w x y m h = room h.call.0.1.room
    where
      room : Room Feeder (loose_meaning x) h.call.0.1.roomy → loose_meaning y ≡ waits words (store a w ∷ [])
      room (loosely.Room.found l e) = h.call.0.1.after ∙ ap (joined Feeder (store a w)) (e ∙ m)
      room (loosely.Room.made l o) = let k = ap (λ n. stores (line Feeder n)) m in absurd (omega (arith, l, k))

  landed : (a w : ℕ) (x y : Loose) → loose_meaning x ≡ waits words (store a w ∷ []) → Makes loose (Land Feeder 0) x y → loose_meaning y ≡ waits (set words a w) []
  landed a w x y m h = land h.call.0
    where
      land : Landed Feeder 0 (loose_meaning x) (loose_meaning y) → loose_meaning y ≡ waits (set words a w) []
      land (loosely.Landed.nothing i) = let k = ap (λ n. ready [] (line Feeder n)) m in absurd (omega (arith, i.none_ready, k))
      land (loosely.Landed.one l p) =
          let o = lone a w p.address p.word p.out.older p.out.younger (sym (ap (line Feeder) m) ∙ p.out.waits) in
          p.after
          ∙ (ap (λ k. with_line Feeder k (with_word p.address p.word (loose_meaning x))) (p.out.after ∙ ap tidy o.2)
          ∙ (ap (λ n. with_line Feeder [] (with_word p.address p.word n)) m
          ∙ (ap (λ b. waits (set words b p.word) []) o.0 ∙ ap (λ v. waits (set words a v) []) o.1)))

never_bare : (e : Edit) → edit_word e ≡ 0 → ⊥
never_bare e h = omega (arith, ints)

module _ (number : ℕ) (i : Edit) (end : Moment Edit Loose) where
  abbrev met : hands.Feeder Edit → hands.Drawer Edit → Loose → Moment Edit Loose
  met f d x = record { number = number; rings = 2; cells = 2; memory = x; feeder = f; drawer = d }

  -- the feeder, its put at P1, P7 and P8, and once it is over; the drawer, its take at T1, T2 and T9
  abbrev putting_at : PutStage Edit → ℕ → hands.Feeder Edit
  putting_at s k = record { stage = s; steps = k; places = first_places 0 }

  abbrev put_in : hands.Feeder Edit
  put_in = record { stage = put.Idle; steps = 0; places = own_on 2 (first_places 0) }

  abbrev taking_at : TakeStage Edit → ℕ → hands.Drawer Edit
  taking_at s k = record { stage = s; steps = k; places = first_places 1 }

  abbrev From : Moment Edit Loose → List (Event Edit) → Type 0
  From m h = Leads loose edits m h end

  -- a step leads on from what it gives
  fed_on : (m n : Moment Edit Loose) {a : Option (Ended (PutAnswer Edit))} {h : List (Event Edit)} (f : hands.Feeder Edit) → PutStep loose edits m n a → n.feeder ≡ f → From n h → From (fed m n.memory f) h
  fed_on m n {h = h} f s e l = subst (λ k. From k h) (s.after ∙ ap (fed m n.memory) e) l

  drawn_on : (m n : Moment Edit Loose) {a : Option (Ended (TakeAnswer Edit))} {h : List (Event Edit)} (d : hands.Drawer Edit) → TakeStep loose edits m n a → n.drawer ≡ d → From n h → From (drawn m n.memory d) h
  drawn_on m n {h = h} d s e l = subst (λ k. From k h) (s.after ∙ ap (drawn m n.memory) e) l

  module _ (words : List ℕ) (cell : get_or words 0 0 ≡ 0) (mark : get_or words 8 0 ≡ 1) (room : 0 < length words) where
    -- the last step gives the item
    gives : (x : Loose) {said : List (Said Edit)} {h : List (Event Edit)} → Plays (Draw ∷ []) said h → From (met put_in (taking_at (take.T9 i) 1) x) h → said ≡ drop 7 (told i)
    gives x (plays.Plays.draw_begins v w a r) (history.Leads.first (history.Happens.take_begins q e) l) = no_both (ap taking q)
    gives x (plays.Plays.draw_goes_on v w a plays.Plays.no_move) (history.Leads.first (history.Happens.take_steps s) l) =
        ap (λ b. take_said b ∷ []) (take_gives (taking_at (take.T9 i) 1) x s.row).2

    -- the second take finds the item
    finds : (x : Loose) {said : List (Said Edit)} {h : List (Event Edit)} → loose_meaning x ≡ waits (set words 0 (edit_word i)) [] → Plays (Draw ∷ Draw ∷ []) said h → From (met put_in (taking_at take.Idle 0) x) h → said ≡ drop 6 (told i)
    finds x m (plays.Plays.draw_begins {said = said} v w a r) (history.Leads.first (history.Happens.take_begins q e) (history.Leads.first (history.Happens.take_steps {n = k} s) l)) =
        let t = subst (λ u. TakeStep loose edits u k a) e s in
        let g = take_gives (taking_at take.T1 0) x t.row in
        let arrived : get_or (set words 0 (edit_word i)) 0 0 ≡ edit_word i = rw get_or-set_same in
        let word : g.0 ≡ edit_word i = (seen (set words 0 (edit_word i)) Drawer 0 g.0 x k.memory [] m g.1).0 ∙ arrived in
        ⊎_elim
        (λ b. absurd (never_bare i (sym word ∙ b.0)))
        (⊎_elim
        (λ j.
        let same : j.0 ≡ i = same_edit_word j.0 i (sym j.1 ∙ word) in
        let hand = j.2 ∙ ap (λ u. taking_at (take.T9 u) 1) same in
        ap (λ b. take_said b ∷ said) j.3
        ∙ ap (λ u. take_said None ∷ u) (gives k.memory r (drawn_on (met put_in (taking_at take.T1 0) x) k (taking_at (take.T9 i) 1) t hand l)))
        (λ n. absurd (n.1 i (sym word))))
        g.2
    finds x m (plays.Plays.draw_goes_on v w a r) (history.Leads.first (history.Happens.take_steps s) l) = absurd (take_gives (taking_at take.Idle 0) x s.row)

    -- the item's store lands
    lands : (x : Loose) {said : List (Said Edit)} {h : List (Event Edit)} → loose_meaning x ≡ waits words (store 0 (edit_word i) ∷ []) → Plays (drop 5 (hand_over i)) said h → From (met put_in (taking_at take.Idle 0) x) h → said ≡ drop 5 (told i)
    lands x m (plays.Plays.land s p r) (history.Leads.first {h = h} (history.Happens.landing {n = n} c) l) =
        ap (λ u. take_said None ∷ u) (finds n.memory (landed words 0 (edit_word i) x n.memory m c.call) r (subst (λ u. From u h) c.after l))

    -- the mark is at the drawer's own ring: the first take is empty
    empties : (x : Loose) {said : List (Said Edit)} {h : List (Event Edit)} → loose_meaning x ≡ waits words (store 0 (edit_word i) ∷ []) → Plays (drop 4 (hand_over i)) said h → From (met put_in (taking_at take.T2 1) x) h → said ≡ drop 4 (told i)
    empties x m (plays.Plays.draw_begins v w a r) (history.Leads.first (history.Happens.take_begins q e) l) = no_both (ap taking q)
    empties x m (plays.Plays.draw_goes_on {said = said} v w a r) (history.Leads.first (history.Happens.take_steps {n = k} s) l) =
        let g = take_gives (taking_at take.T2 1) x s.row in
        let look = seen words Drawer 8 g.0 x k.memory (store 0 (edit_word i) ∷ []) m g.1 in
        let word : g.0 ≡ 1 = look.0 ∙ mark in
        ⊎_elim
        (λ b.
        ap (λ u. take_said u ∷ said) b.1
        ∙ ap (λ u. Take (record { answer = Empty; steps = 2 }) ∷ u) (lands k.memory look.1 r (drawn_on (met put_in (taking_at take.T2 1) x) k (taking_at take.Idle 0) s b.0 l)))
        (⊎_elim (λ b. absurd (b word)) (λ n. absurd (n 0 (omega arith) word)))
        g.2

    -- its cell is bare as long as its store waits
    misses : (x : Loose) {said : List (Said Edit)} {h : List (Event Edit)} → loose_meaning x ≡ waits words (store 0 (edit_word i) ∷ []) → Plays (drop 3 (hand_over i)) said h → From (met put_in (taking_at take.Idle 0) x) h → said ≡ drop 3 (told i)
    misses x m (plays.Plays.draw_begins {said = said} v w a r) (history.Leads.first (history.Happens.take_begins q e) (history.Leads.first (history.Happens.take_steps {n = k} s) l)) =
        let t = subst (λ u. TakeStep loose edits u k a) e s in
        let g = take_gives (taking_at take.T1 0) x t.row in
        let look = seen words Drawer 0 g.0 x k.memory (store 0 (edit_word i) ∷ []) m g.1 in
        let word : g.0 ≡ 0 = look.0 ∙ cell in
        ⊎_elim
        (λ b.
        ap (λ u. take_said u ∷ said) b.2
        ∙ ap (λ u. take_said None ∷ u) (empties k.memory look.1 r (drawn_on (met put_in (taking_at take.T1 0) x) k (taking_at take.T2 1) t b.1 l)))
        (⊎_elim (λ j. absurd (never_bare j.0 (sym j.1 ∙ word))) (λ n. absurd (n.0 word)))
        g.2
    misses x m (plays.Plays.draw_goes_on v w a r) (history.Leads.first (history.Happens.take_steps s) l) = absurd (take_gives (taking_at take.Idle 0) x s.row)

    -- the put stores its item, after a bar, in a cell that it found bare
    accepts : (x : Loose) {said : List (Said Edit)} {h : List (Event Edit)} → loose_meaning x ≡ waits words [] → Plays (drop 2 (hand_over i)) said h → From (met (putting_at (put.P8 i) 2) (taking_at take.Idle 0) x) h → said ≡ drop 2 (told i)
    accepts x m (plays.Plays.feed_begins j v w a r) (history.Leads.first (history.Happens.put_begins q e) l) = no_both (ap putting q)
    accepts x m (plays.Plays.feed_goes_on {said = said} j v w a r) (history.Leads.first (history.Happens.put_steps {n = k} s) l) =
        let g = put_gives (putting_at (put.P8 i) 2) x s.row in
        ap (λ u. put_said u ∷ said) g.2
        ∙ ap (λ u. Put (record { answer = Accepted; steps = 3 }) ∷ u) (misses k.memory (stored words 0 (edit_word i) x k.memory m g.0) r (fed_on (met (putting_at (put.P8 i) 2) (taking_at take.Idle 0) x) k put_in s g.1 l))

    bars : (x : Loose) {said : List (Said Edit)} {h : List (Event Edit)} → loose_meaning x ≡ waits words [] → Plays (drop 1 (hand_over i)) said h → From (met (putting_at (put.P7 i) 1) (taking_at take.Idle 0) x) h → said ≡ drop 1 (told i)
    bars x m (plays.Plays.feed_begins j v w a r) (history.Leads.first (history.Happens.put_begins q e) l) = no_both (ap putting q)
    bars x m (plays.Plays.feed_goes_on {said = said} j v w a r) (history.Leads.first (history.Happens.put_steps {n = k} s) l) =
        let g = put_gives (putting_at (put.P7 i) 1) x s.row in
        ap (λ u. put_said u ∷ said) g.2
        ∙ ap (λ u. put_said None ∷ u) (accepts k.memory (barred words x k.memory m g.0) r (fed_on (met (putting_at (put.P7 i) 1) (taking_at take.Idle 0) x) k (putting_at (put.P8 i) 2) s g.1 l))

    goes : (x : Loose) {said : List (Said Edit)} {h : List (Event Edit)} → loose_meaning x ≡ waits words [] → Plays (hand_over i) said h → From (met (putting_at put.Idle 0) (taking_at take.Idle 0) x) h → said ≡ told i
    goes x m (plays.Plays.feed_begins {said = said} j v w a r) (history.Leads.first (history.Happens.put_begins q e) (history.Leads.first (history.Happens.put_steps {n = k} s) l)) =
        let t = subst (λ u. PutStep loose edits u k a) e s in
        let g = put_gives (putting_at (put.P1 i) 0) x t.row in
        let look = seen words Feeder 0 g.0 x k.memory [] m g.1 in
        ⊎_elim
        (λ b.
        ap (λ u. put_said u ∷ said) b.2
        ∙ ap (λ u. put_said None ∷ u) (bars k.memory look.1 r (fed_on (met (putting_at (put.P1 i) 0) (taking_at take.Idle 0) x) k (putting_at (put.P7 i) 1) t b.1 l)))
        (λ n. absurd (n (look.0 ∙ cell)))
        g.2
    goes x m (plays.Plays.feed_goes_on j v w a r) (history.Leads.first (history.Happens.put_steps s) l) = absurd (put_gives (putting_at put.Idle 0) x s.row)

pub loose_hand_over : LooseHandOver
unfolding NothingWaits landed_word size
loose_hand_over number i x y before after eight p =
    let lane = opens_lane loose 2 2 (omega arith) x p.memory p.opens in
    let words = (loose_meaning p.memory).landed in
    let idle : loose_meaning p.memory ≡ waits words [] = λ j. record { landed = words; feeder = lane.quiet.0 j; drawer = lane.quiet.1 j } in
    let played = subst (λ n. Plays (take n (hand_over i)) p.answers p.history) eight p.plays in
    let told_all = goes number i p.end words (lane.cells 0 (omega arith)) lane.mark (omega (arith, lane.fits)) p.memory idle played p.leads in
    let none_left : drop 8 before ≡ [] = drop_all 8 before (omega arith) in
    p.told ∙ (ap (λ u. u ++ drop (length u) before) told_all ∙ ap (λ u. told i ++ u) none_left)
