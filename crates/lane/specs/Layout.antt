-- The shape of a lane, its addresses, and a side's positions.
use Rattle.std.specs.Prelude.{◌≡◌, ℕ, ◌+◌, ◌*◌, ◌<◌, ◌≤◌, cond, length, Some, None, Option, ◌==◌, ◌≢◌, slice_index, slice_set}
use Rattle.lane.specs.declared.sides.Places.{Places}
use Rattle.lane.specs.declared.sides.Spot.{Spot}
use Rattle.lane.specs.declared.sides.Spot.TheVariants.{Own, Next, Free, Mark}

-- R rings of N cells
abbrev pub Shaped : ℕ → ℕ → Type 0
Shaped R N = (2 ≤ R) × (R ≤ 8) × (1 ≤ N) × (N ≤ 64)

-- how many words a lane needs: the cells of its rings, the next list, the free list, and the mark
abbrev pub words_of : ℕ → ℕ → ℕ
words_of R N = R * N + (2 * R + 1)

-- a side's own cell: the one at its position in its own ring
abbrev pub own_cell : ℕ → Places → ℕ
own_cell N p = p.ring * N + slice_index p.at p.ring

-- where a side stands in the next list, by which the feeder tells the drawer of rings,
abbrev pub next_cell : ℕ → ℕ → Places → ℕ
next_cell R N p = R * N + p.next

-- and in the free list, by which the drawer gives them back
abbrev pub free_cell : ℕ → ℕ → Places → ℕ
free_cell R N p = R * N + (R + p.free)

-- the mark shows the ring that the feeder is in
abbrev pub mark_cell : ℕ → ℕ → ℕ
mark_cell R N = R * N + 2 * R

-- the word that names a ring
abbrev pub ring_word : ℕ → ℕ
ring_word n = n + 1

-- the word names none of R rings
abbrev pub NamesNoRing : ℕ → ℕ → Type 0
NamesNoRing R w = (n : ℕ) → n < R → w ≢ ring_word n

abbrev pub RingRead : ℕ → ℕ → Option ℕ → Type 0
RingRead R w (Some n) = (n < R) × (w ≡ ring_word n)
RingRead R w None = NamesNoRing R w

-- one further, wrapping at n
abbrev pub advanced : ℕ → ℕ → ℕ
advanced n i = cond (i + 1 == n) 0 (i + 1)

-- a side's positions after it has moved on in its own ring, in the next list, in the free list, and into ring n
abbrev pub own_on : ℕ → Places → Places
own_on N p = record { ring = p.ring; at = slice_set p.at p.ring (advanced N (slice_index p.at p.ring)); next = p.next; free = p.free }

abbrev pub next_on : ℕ → Places → Places
next_on R p = record { ring = p.ring; at = p.at; next = advanced R p.next; free = p.free }

abbrev pub free_on : ℕ → Places → Places
free_on R p = record { ring = p.ring; at = p.at; next = p.next; free = advanced R p.free }

abbrev pub ring_is : ℕ → Places → Places
ring_is n p = record { ring = n; at = p.at; next = p.next; free = p.free }

-- the address of a cell that a side comes to, and its positions once it has stored there
abbrev pub spot_cell : ℕ → ℕ → Places → Spot → ℕ
spot_cell R N p Own = own_cell N p
spot_cell R N p Next = next_cell R N p
spot_cell R N p Free = free_cell R N p
spot_cell R N p Mark = mark_cell R N

abbrev pub moved_on : ℕ → ℕ → Places → Spot → Places
moved_on R N p Own = own_on N p
moved_on R N p Next = next_on R p
moved_on R N p Free = free_on R p
moved_on R N p Mark = p

-- the positions of a side lie within its rings and lists
abbrev pub Within : ℕ → ℕ → Places → Type 0
Within R N p = (p.ring < R) × (length p.at ≡ 8) × ((r : ℕ) → slice_index p.at r < N) × (p.next < R) × (p.free < R)
