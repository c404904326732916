-- Words that spell items, one by one.
use Rattle.std.proofs.Common.{◌≡◌, ℕ, zero, suc, ◌+◌, ◌<◌, ◌≤◌, List, [], ◌∷◌, ◌++◌, map, length, get_or, take, sym, refl, ap, ◌∙◌, arith}
use Rattle.std.proofs.lemmas.List.{map-append, take_more, take_all}
use Rattle.words.specs.declared.kinds.Kind as kind
use Rattle.run.specs.Spelling.{Spelled}

module _ {K : Type 0} (κ : kind.Ghosts K) where
  pub spelled_none : Spelled κ []
  spelled_none = record { items = []; spell = refl }

  pub spelled_more : (words : List ℕ) (n : ℕ) (i : K) → n < length words → κ.word i ≡ get_or words n 0 → Spelled κ (take n words) → Spelled κ (take (n + 1) words)
  spelled_more words n i h e s = record { items = s.items ++ (i ∷ []); spell = take_more words n 0 h ∙ (ap (λ (l : List ℕ). l ++ (get_or words n 0 ∷ [])) s.spell ∙ (ap (λ w. map κ.word s.items ++ (w ∷ [])) (sym e) ∙ sym (map-append κ.word s.items (i ∷ [])))) }

  pub spelled_all : (words : List ℕ) (n : ℕ) → length words ≤ n → Spelled κ (take n words) → Spelled κ words
  spelled_all words n h s = record { items = s.items; spell = sym (take_all n words h) ∙ s.spell }

  item_of : (items : List K) (n : ℕ) → n < length (map κ.word items) → (i : K) × (κ.word i ≡ get_or (map κ.word items) n 0)
  item_of [] n h = absurd (omega arith)
  item_of (i ∷ items) zero h = (i, refl)
  item_of (i ∷ items) (suc n) h = item_of items n (omega arith)

  -- each of the words is that of some item
  pub spelled_at : (words : List ℕ) (n : ℕ) → n < length words → Spelled κ words → (i : K) × (κ.word i ≡ get_or words n 0)
  spelled_at words n h s = let p = item_of s.items n (rw s.spell at h) in (p.0, p.1 ∙ ap (λ (l : List ℕ). get_or l n 0) (sym s.spell))
