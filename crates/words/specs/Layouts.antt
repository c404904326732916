-- The bytes of an item's word, and that they tell the item.
use Rattle.std.specs.Prelude.{◌≡◌, ◌≢◌, ℕ, ◌/◌, ◌%◌, ◌^◌, ◌<◌, List, [], ◌∷◌, ℤ, pos, Some, None, Option, refl}
use Rattle.std.proofs.Common.{⊎_elim, sym, ap, ◌∙◌, arith}
use Rattle.std.proofs.lemmas.Int.{ints, to_z-of_z}
use Rattle.words.specs.declared.edits.Edit.{Edit}
use Rattle.words.specs.declared.parts.Part.TheVariants.{Value}
use Rattle.words.specs.declared.readings.Reading.{Reading}
use Rattle.words.specs.declared.rings.RingNumber.{RingNumber}
use Rattle.words.specs.declared.settings.Setting.{Setting}
use Rattle.words.specs.declared.faults.ItemFault.{ItemFault}
use Rattle.words.specs.Ranges.{InRange, Measured, Number, FirstOut, edit_numbers, temperature_numbers, reading_numbers}
use Rattle.words.specs.Settings.{code}
use Rattle.words.specs.Words.{edit_word, reading_word, ring_word, temperature_bits, bits_temperature}
use Rattle.words.specs.SameItem.{same_edit, same_reading, same_ring}

pub same_setting : (s t : Setting) → code s ≡ code t → s ≡ t
same_setting s t e = grind arith

code_fits : (s : Setting) → code s < 256
code_fits s = grind arith

code_above : (s : Setting) → 0 < code s
code_above s = grind arith

pub value_fits : (s : Setting) (n : ℕ) → InRange (Value s) (pos n) → n < 2 ^ 32
value_fits s n h = grind (arith, ints)

-- the bytes of an edit's word, from the most significant
pub record EditBytes (x : Edit) (w : ℕ) : Type 0 where
  pub setting : w / 256 ^ 7 ≡ code x.setting
  pub deck : w / 256 ^ 6 % 256 ≡ x.deck
  pub stage : w / 256 ^ 5 % 256 ≡ x.stage
  pub zero : w / 256 ^ 4 % 256 ≡ 0
  pub value : w % 256 ^ 4 ≡ x.value

pub edit_bytes : (x : Edit) (w : ℕ) → edit_word x ≡ w → EditBytes x w
edit_bytes x w h =
    let v : x.value < 2 ^ 32 = value_fits x.setting x.value x.in_range.2 in
    record {
      setting = omega (arith, ints);
      deck = omega (arith, ints);
      stage = omega (arith, ints);
      zero = omega (arith, ints);
      value = omega (arith, ints);
    }

-- each word fits 64 bits and is not bare, and the words of two items differ
pub edit_fits : (x : Edit) → edit_word x < 2 ^ 64
edit_fits x =
    let v : x.value < 2 ^ 32 = value_fits x.setting x.value x.in_range.2 in
    let c : code x.setting < 256 = code_fits x.setting in
    omega (arith, ints)

pub edit_marked : (x : Edit) → edit_word x ≢ 0
edit_marked x e = let c : 0 < code x.setting = code_above x.setting in omega (arith, ints)

pub same_edit_word : (x y : Edit) → edit_word x ≡ edit_word y → x ≡ y
same_edit_word x y h =
    let p = edit_bytes x (edit_word y) h in
    let q = edit_bytes y (edit_word y) refl in
    same_edit x y (same_setting _ _ (omega arith)) (omega arith) (omega arith) (omega arith)

pub bits_fit : (o : Option ℤ) → Measured o → temperature_bits o < 2 ^ 16
bits_fit None h = omega arith
bits_fit (Some t) h = let k = h t refl in omega (arith, ints)

pub bits_read : (o : Option ℤ) → Measured o → bits_temperature (temperature_bits o) ≡ o
bits_read None h = refl
bits_read (Some t) h = let k = h t refl in grind (arith, ints, to_z-of_z)

-- the bytes of a reading's word, from the most significant
pub record ReadingBytes (x : Reading) (w : ℕ) : Type 0 where
  pub code : w / 256 ^ 7 ≡ 16
  pub deck : w / 256 ^ 6 % 256 ≡ x.deck
  pub probe : w / 256 ^ 5 % 256 ≡ x.probe
  pub zero : w / 256 ^ 4 % 256 ≡ 0
  pub tick : w / 256 ^ 2 % 2 ^ 16 ≡ x.tick
  pub temperature : w % 2 ^ 16 ≡ temperature_bits x.tenths

pub reading_bytes : (x : Reading) (w : ℕ) → reading_word x ≡ w → ReadingBytes x w
reading_bytes x w h =
    let b = bits_fit x.tenths x.measured in
    record {
      code = omega (arith, ints);
      deck = omega (arith, ints);
      probe = omega (arith, ints);
      zero = omega (arith, ints);
      tick = omega (arith, ints);
      temperature = omega (arith, ints);
    }

pub reading_fits : (x : Reading) → reading_word x < 2 ^ 64
reading_fits x = omega (arith, ints, bits_fit x.tenths x.measured)

pub reading_marked : (x : Reading) → reading_word x ≢ 0
reading_marked x e = omega arith

pub same_reading_word : (x y : Reading) → reading_word x ≡ reading_word y → x ≡ y
same_reading_word x y h =
    let p = reading_bytes x (reading_word y) h in
    let q = reading_bytes y (reading_word y) refl in
    let t : temperature_bits x.tenths ≡ temperature_bits y.tenths = omega arith in
    same_reading x y (omega arith) (omega arith) (omega arith)
    (sym (bits_read x.tenths x.measured) ∙ (ap bits_temperature t ∙ bits_read y.tenths y.measured))

pub ring_fits : (x : RingNumber) → ring_word x < 2 ^ 64
ring_fits x = omega (arith, ints)

pub ring_marked : (x : RingNumber) → ring_word x ≢ 0
ring_marked x e = omega arith

pub same_ring_word : (x y : RingNumber) → ring_word x ≡ ring_word y → x ≡ y
same_ring_word x y h = same_ring x y (omega arith)

-- each of these numbers is in its range
abbrev pub AllIn : List Number → Type 0
AllIn [] = Unit {0}
AllIn (n ∷ l) = InRange n.part n.is × AllIn l

pub none_out : (l : List Number) (f : ItemFault) → AllIn l → FirstOut l f → ⊥
none_out [] f h k = k
none_out (n ∷ l) f h k = ⊎_elim (λ a. a.0 h.0) (λ b. none_out l f h.1 b.1) k

pub temperature_in : (o : Option ℤ) → Measured o → AllIn (temperature_numbers o)
temperature_in None h = tt
temperature_in (Some t) h = (h t refl, tt)

-- no number of an item is refused
pub no_edit_fault :
    (x : Edit) (s : Setting) (deck stage value : ℤ) (f : ItemFault) →
    s ≡ x.setting → deck ≡ pos x.deck → stage ≡ pos x.stage → value ≡ pos x.value →
    FirstOut (edit_numbers s deck stage value) f → ⊥
no_edit_fault x s deck stage value f e d t v =
    none_out (edit_numbers s deck stage value) f
    (rw d x.in_range.0, (rw t x.in_range.1, (rw (e, v) x.in_range.2, tt)))

pub no_reading_fault :
    (x : Reading) (deck probe tick : ℤ) (tenths : Option ℤ) (f : ItemFault) →
    deck ≡ pos x.deck → probe ≡ pos x.probe → tick ≡ pos x.tick → tenths ≡ x.tenths →
    FirstOut (reading_numbers deck probe tick tenths) f → ⊥
no_reading_fault x deck probe tick tenths f d p t o =
    none_out (reading_numbers deck probe tick tenths) f
    (rw d x.in_range.0, (rw p x.in_range.1, (rw t x.in_range.2, temperature_in tenths (rw o x.measured))))
