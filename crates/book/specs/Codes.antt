-- The codes by which the settings name a kind of item and a kind of memory.
use Rattle.std.specs.Prelude.{◌≡◌, ℕ, Bool, true, false, ◌||◌, ◌==◌, Ok, Err, Result}
use Rattle.book.specs.declared.codes.ItemKind.{ItemKind}
use Rattle.book.specs.declared.codes.ItemKind.TheVariants.{Edit, Reading}
use Rattle.book.specs.declared.codes.MemoryKind.{MemoryKind}
use Rattle.book.specs.declared.codes.MemoryKind.TheVariants.{Prompt, Loose}

abbrev pub kind_code : ItemKind → ℕ
kind_code Edit = 1
kind_code Reading = 2

abbrev pub memory_code : MemoryKind → ℕ
memory_code Prompt = 1
memory_code Loose = 2

abbrev pub one_or_two : ℕ → Bool
one_or_two n = n == 1 || n == 2

-- 1 and 2 give what they are the codes of, and any other number nothing
abbrev pub Decodes : {T E : Type 0} → (T → ℕ) → ℕ → Result T E → Type 0
Decodes code n (Ok x) = (one_or_two n ≡ true) × (code x ≡ n)
Decodes code n (Err e) = one_or_two n ≡ false
