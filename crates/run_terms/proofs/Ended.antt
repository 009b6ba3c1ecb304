-- How a run ended, with one way more to end.
use Rattle.run_terms.proofs.Common.{ℕ, ◌≡◌, Bool, true, false, ◌||◌, cond, List, map, take, Option, Some, None, IfSome, refl, sym, ◌∙◌, is_some, option_map, or-false, or-true, Outcome, Ub, Beyond, Return, keeps_trans, bit-later, is_term-later, memory-later, given_blocks-later, Where, At, Done, TermId, Term, Keeps, IsTerm, Tests, bit_at, SymValue, SymBlock, IsSymValue, Reading, value_at, AreGivenBlocks, AreSymBlocks, frame_of, memory_at, Tally, Ending, Counts, IsTally, Scene, sight, Test, AreTests, HoldAll, HasLeft, HasReturned, Left, Ends, IsEnding, MatchesEnding, NotEnded, ending_at, ending_shape}
use Rattle.run_terms.proofs.Lasting.{counts-later, ending-later, hold-later, option-later, returned-later, some-later, tests-later}
use Rattle.run_terms.proofs.Memories.{given_framed}
use Rattle.run_terms.proofs.Leading.{hold_front, tests_front}

-- this is left still, and the tests hold
record StillLeft (g : Scene) (old new : List Term) (e d : Ending) : Type 0 where
  value : option_map (value_at (sight g) new) d.value ≡ option_map (value_at (sight g) old) e.value
  blocks : memory_at (sight g) new d.blocks ≡ memory_at (sight g) old e.blocks
  returned : HasReturned g.v new d.returned

-- what is known of how it ended stays
record Same (g : Scene) (old new : List Term) (e d : Ending) : Type 0 where
  ub : bit_at g.v new d.ub ≡ bit_at g.v old e.ub
  beyond : bit_at g.v new d.beyond ≡ bit_at g.v old e.beyond
  returned : HasReturned g.v old e.returned → StillLeft g old new e d

-- outcomes are the same where what is returned is
return_same : (u b : Bool) (x y : Outcome) → (u ≡ false → b ≡ false → x ≡ y) → cond u Ub (cond b Beyond x) ≡ cond u Ub (cond b Beyond y)
return_same true b x y e = refl
return_same false true x y e = refl
return_same false false x y e = e refl refl

same_ending : {g : Scene} {old new : List Term} {e d : Ending} → Same g old new e d → ((taken : List ℕ) → Counts g old e.tally taken → Counts g new d.tally taken) → (at : Option Where) → MatchesEnding g old e at → MatchesEnding g new d at
same_ending h t None s = record { ub = h.ub ∙ s.ub; beyond = h.beyond ∙ s.beyond }
same_ending h t (Some (At n m)) s = record { ub = h.ub ∙ s.ub; beyond = h.beyond ∙ s.beyond }
same_ending {g = g} {old = old} {new = new} {e = e} {d = d} h t (Some (Done run)) s = record {
  outcome = rw (h.ub, h.beyond)
      (return_same (bit_at g.v old e.ub) (bit_at g.v old e.beyond) (Return (option_map (value_at (sight g) new) d.value) (memory_at (sight g) new d.blocks)) (Return (option_map (value_at (sight g) old) e.value) (memory_at (sight g) old e.blocks))
      (λ u b. let left = h.returned (s.returned u b) in rw (left.value, left.blocks) refl) ∙ s.outcome);
  tally = t run.taken s.tally;
  returned = λ u b. (h.returned (s.returned (sym h.ub ∙ u) (sym h.beyond ∙ b))).returned;
}

module _ (old a b : List Term) (e : Ending) (own : IsEnding old e) (c : TermId) (read tally : Tally) (hc : IsTerm old 1 c) (hr : IsTally old read) (ka : Keeps old a) (kb : Keeps a b) (ht : IsTally b tally)
    (st : (g : Scene) (taken : List ℕ) → bit_at g.v a c ≡ false → Counts g a e.tally taken → Counts g b tally taken)
    (go : (g : Scene) (taken : List ℕ) → bit_at g.v a c ≡ true → Counts g a read taken → Counts g b tally taken) where
  k : Keeps old b
  k = keeps_trans old a b ka kb

  -- all but the tally, where the condition holds and where it does not
  ends_by : {outcome : Scene → Outcome} (d : Ending) → IsEnding b d → ending_shape d ≡ ending_shape e → d.tally ≡ tally
      → ((g : Scene) → bit_at g.v old c ≡ false → Same g old b e d) → ((g : Scene) → bit_at g.v old c ≡ true → NotEnded g old e → ending_at (sight g) b d ≡ outcome g)
      → ((g : Scene) → bit_at g.v old c ≡ true → bit_at g.v b d.ub ≡ false → bit_at g.v b d.beyond ≡ false → HasReturned g.v b d.returned) → Ends old b e d c read outcome
  ends_by d made shape is same so returned = record {
    made = made;
    shape = shape;
    stays = λ g at none. same_ending (same g none) (λ taken h. rw is (st g taken (bit-later old a ka g.v c hc.within ∙ none) (counts-later old a ka g e.tally taken own.tally h))) at;
    goes = λ g taken held h not. record {
      outcome = so g held not;
      tally = rw is (go g taken (bit-later old a ka g.v c hc.within ∙ held) (counts-later old a ka g read taken hr h));
      returned = returned g held;
    };
  }

  -- what was left is left still
  left_as : (d : Ending) → d.value ≡ e.value → d.blocks ≡ e.blocks → d.returned ≡ e.returned → (g : Scene) → HasReturned g.v old e.returned → StillLeft g old b e d
  left_as d value blocks returned g held = record {
    value = rw value (option-later old b k (sight g) e.value own.value);
    blocks = rw blocks (memory-later old b k (sight g) e.blocks own.given.are);
    returned = rw returned (returned-later old b k g.v e.returned own.returned held);
  }

  pub undefined_ends : (ub : TermId) → Tests a ub (λ v. bit_at v old e.ub || bit_at v old c) → Ends old b e (record e { ub = ub; tally = tally }) c read (λ g. Ub)
  undefined_ends ub t =
      let is : (g : Scene) → bit_at g.v b ub ≡ (bit_at g.v old e.ub || bit_at g.v old c) = λ g. bit-later a b kb g.v ub t.within ∙ t.says g.v in
      let later = ending-later old b k e own in
      ends_by (record e { ub = ub; tally = tally })
      (record { ub = is_term-later a b kb 1 ub (record { within = t.within; wide = t.wide }); beyond = later.beyond; value = later.value; given = later.given; tally = ht; returned = later.returned }) refl refl
      (λ g none. record {
        ub = is g ∙ rw none (or-false (bit_at g.v old e.ub));
        beyond = bit-later old b k g.v e.beyond own.beyond.within;
        returned = left_as (record e { ub = ub; tally = tally }) refl refl refl g;
      })
      (λ g held not. rw (is g, held, or-true (bit_at g.v old e.ub)) refl)
      (λ g held u w.
      let on : bit_at g.v b ub ≡ true = is g ∙ rw held (or-true (bit_at g.v old e.ub)) in
      absurd (let x : ⊥ = cc in x))

  pub beyond_ends : (beyond : TermId) → Tests a beyond (λ v. bit_at v old e.beyond || bit_at v old c) → Ends old b e (record e { beyond = beyond; tally = tally }) c read (λ g. Beyond)
  beyond_ends beyond t =
      let is : (g : Scene) → bit_at g.v b beyond ≡ (bit_at g.v old e.beyond || bit_at g.v old c) = λ g. bit-later a b kb g.v beyond t.within ∙ t.says g.v in
      let later = ending-later old b k e own in
      ends_by (record e { beyond = beyond; tally = tally })
      (record { ub = later.ub; beyond = is_term-later a b kb 1 beyond (record { within = t.within; wide = t.wide }); value = later.value; given = later.given; tally = ht; returned = later.returned }) refl refl
      (λ g none. record {
        ub = bit-later old b k g.v e.ub own.ub.within;
        beyond = is g ∙ rw none (or-false (bit_at g.v old e.beyond));
        returned = left_as (record e { beyond = beyond; tally = tally }) refl refl refl g;
      })
      (λ g held not. rw (bit-later old b k g.v e.ub own.ub.within, not.ub, is g, held, or-true (bit_at g.v old e.beyond)) refl)
      (λ g held u w.
      let on : bit_at g.v b beyond ≡ true = is g ∙ rw held (or-true (bit_at g.v old e.beyond)) in
      absurd (let x : ⊥ = cc in x))

  -- the value and the given blocks are chosen before
  pub return_ends : (left : Left) (value : Option SymValue) (given : List SymBlock) → IfSome left.value (IsSymValue a) → is_some left.value ≡ is_some e.value → AreGivenBlocks (map frame_of e.blocks) a left.blocks → AreTests a left.path
      → ((r : Reading) → bit_at r.v old c ≡ true → HasLeft r old a left value given)
      → ((r : Reading) → bit_at r.v old c ≡ false → HasReturned r.v old e.returned → HasLeft r old a left e.value e.blocks)
      → Ends old b e (record e { value = left.value; blocks = left.blocks; tally = tally; returned = Some left.path }) c read (λ g. Return (option_map (value_at (sight g) old) value) (memory_at (sight g) old given))
  return_ends left value given hv alike hb hp goes stays =
      let known = map frame_of e.blocks in
      let later = ending-later old b k e own in
      let value_is = λ (r : Reading). option-later a b kb r left.value hv in
      let blocks_are = λ (r : Reading). memory-later a b kb r left.blocks hb.are in
      ends_by (record e { value = left.value; blocks = left.blocks; tally = tally; returned = Some left.path })
      (record { ub = later.ub; beyond = later.beyond; value = some-later a b kb left.value hv; given = given_framed known b left.blocks (given_blocks-later a b kb known left.blocks hb); tally = ht; returned = tests-later a b kb left.path hp })
      (λ i. record { valued = alike i; frames = hb.frames i }) refl
      (λ g none. record {
        ub = bit-later old b k g.v e.ub own.ub.within;
        beyond = bit-later old b k g.v e.beyond own.beyond.within;
        returned = λ held.
            let it = stays (sight g) none held in
            record { value = value_is (sight g) ∙ it.value; blocks = blocks_are (sight g) ∙ it.memory; returned = hold-later a b kb g.v left.path hp it.path };
      })
      (λ g held not.
      let it = goes (sight g) held in
      rw (bit-later old b k g.v e.ub own.ub.within, not.ub, bit-later old b k g.v e.beyond own.beyond.within, not.beyond, value_is (sight g) ∙ it.value, blocks_are (sight g) ∙ it.memory) refl)
      (λ g held u w. hold-later a b kb g.v left.path hp (goes (sight g) held).path)

-- a later return: the value is chosen first, and then the given blocks
module _ {old a p new : List Term} (ka : Keeps old a) (kp : Keeps a p) (kn : Keeps p new) (value before picked : Option SymValue) (given left blocks : List SymBlock) (by : TermId) (path returned front : List Test)
    (hv : IfSome value (IsSymValue old)) (hw : IfSome before (IsSymValue old)) (hp : IfSome picked (IsSymValue p)) (hg : AreSymBlocks old given) (hl : AreSymBlocks old left) (hb : IsTerm a 1 by) (ht : AreTests old path)
    (is : (n : ℕ) × (front ≡ take n path) × (front ≡ take n returned))
    (sp : (r : Reading) → option_map (value_at r p) picked ≡ cond (bit_at r.v a by) (option_map (value_at r a) value) (option_map (value_at r a) before))
    (sb : (r : Reading) → memory_at r new blocks ≡ cond (bit_at r.v p by) (memory_at r p given) (memory_at r p left)) where
  kap : Keeps old p
  kap = keeps_trans old a p ka kp

  front_tests : AreTests old front
  front_tests = tests_front old path front is.0 is.1 ht

  pub later_goes : (r : Reading) → bit_at r.v a by ≡ true → HoldAll r.v old path → HasLeft r old new (record { value = picked; blocks = blocks; path = front }) value given
  later_goes r on held = record {
    value = option-later p new kn r picked hp ∙ (sp r ∙ rw on (option-later old a ka r value hv));
    memory = sb r ∙ rw (bit-later a p kp r.v by hb.within, on) (memory-later old p kap r given hg);
    path = hold-later old new (keeps_trans old p new kap kn) r.v front front_tests (hold_front r.v old path front is.0 is.1 held);
  }

  pub later_stays : (r : Reading) → bit_at r.v a by ≡ false → HoldAll r.v old returned → HasLeft r old new (record { value = picked; blocks = blocks; path = front }) before left
  later_stays r off held = record {
    value = option-later p new kn r picked hp ∙ (sp r ∙ rw off (option-later old a ka r before hw));
    memory = sb r ∙ rw (bit-later a p kp r.v by hb.within, off) (memory-later old p kap r left hl);
    path = hold-later old new (keeps_trans old p new kap kn) r.v front front_tests (hold_front r.v old returned front is.0 is.2 held);
  }
