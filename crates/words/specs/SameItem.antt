-- Two items of a kind with the same fields are the same item.
use mathlib.Core.HLevel.{is_prop→PathP}
use Rattle.std.specs.Prelude.{◌≡◌}
use denote.Struct.Props.{props}
use Rattle.words.specs.declared.edits.Edit as edit
use Rattle.words.specs.declared.edits.Edit.{Edit}
use Rattle.words.specs.declared.readings.Reading as reading
use Rattle.words.specs.declared.readings.Reading.{Reading}
use Rattle.words.specs.declared.rings.RingNumber as ring
use Rattle.words.specs.declared.rings.RingNumber.{RingNumber}
use Rattle.words.specs.Ranges.{Measured}

pub same_edit :
    (x y : Edit) → x.setting ≡ y.setting → x.deck ≡ y.deck → x.stage ≡ y.stage → x.value ≡ y.value → x ≡ y
same_edit x y s d t v j = record {
  setting = s j;
  deck = d j;
  stage = t j;
  value = v j;
  in_range =
      is_prop→PathP (λ k. edit.in_range-type (s k) (d k) (t k) (v k)) (λ k. hlevel props) x.in_range y.in_range j;
}

pub same_reading :
    (x y : Reading) → x.deck ≡ y.deck → x.probe ≡ y.probe → x.tick ≡ y.tick → x.tenths ≡ y.tenths → x ≡ y
same_reading x y d p t o j = record {
  deck = d j;
  probe = p j;
  tick = t j;
  tenths = o j;
  in_range =
      is_prop→PathP (λ k. reading.in_range-type (d k) (p k) (t k) (o k)) (λ k. hlevel props) x.in_range y.in_range j;
  measured = is_prop→PathP (λ k. Measured (o k)) (λ k. hlevel props) x.measured y.measured j;
}

pub same_ring : (x y : RingNumber) → x.number ≡ y.number → x ≡ y
same_ring x y n j = record {
  number = n j;
  in_range = is_prop→PathP (λ k. ring.in_range-type (n k)) (λ k. hlevel props) x.in_range y.in_range j;
}
