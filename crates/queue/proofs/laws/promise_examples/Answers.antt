use Rattle.std.proofs.Common.{◌≡◌, ℕ, refl, inl, inr, arith}
use Rattle.queue.specs.Waiting.{waiting_below}
use Rattle.queue.specs.Examples.{swapped, empty_take, lacking_put, endless_put, miscounted_take}
use Rattle.queue.specs.Promise.{Promise}
use Rattle.queue.proofs.laws.promise_examples.Goals as goal

no_swap : Promise 2 2 swapped → ⊥
no_swap p = let e = p.taken_in_order in let z : ◌≡◌ {A = ℕ} 8 7 = cc in omega arith

no_empty : Promise 2 2 empty_take → ⊥
unfolding waiting_below
no_empty p = elim (p.empty_is_honest.0 2 refl) [ inl e ↦ omega arith | inr k ↦ elim k [ inl e ↦ omega arith | inr n ↦ n ] ]

no_lack : Promise 2 2 lacking_put → ⊥
no_lack p = let h = p.sure_room.0 7 2 _ _ refl refl refl in omega arith

no_end : Promise 2 2 endless_put → ⊥
no_end p = let h = p.put_within_8.0 in omega arith

no_miscount : Promise 2 2 miscounted_take → ⊥
no_miscount p = let h = p.take_within_9.0.1 in omega arith

pub returns : goal.returns
returns c = record {
  reads = record { its_accepted = refl; its_taken = refl; its_puts = refl; its_takes = refl };
  excludes = record { no_swapped_order = no_swap; no_empty_take_with_an_arrived_item = no_empty; no_lack_while_all_is_free = no_lack; no_endless_put = no_end; no_miscounted_take = no_miscount };
}
