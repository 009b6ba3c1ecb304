-- Whether a function is well formed doesn't depend on where its parts are.
use Rattle.ir_reader.proofs.Common.{ℕ, List, inl, inr, Place, Inst, Phi, Block, Function, steps, ComesFromPredecessors, IsUnfitPhi, JumpsToEntry, HasWrongEdge, IsMissed, IsMissedBehind, IsMissedAt, UsesUnassigned, IsWellFormed}
use Rattle.ir_tree.specs.declared.sites.Part.{Part}
use Rattle.ir_tree.specs.declared.sites.Part.TheVariants as part
use Rattle.ir_tree.specs.Flow.{IsPredecessor}
use Rattle.ir_tree.specs.Carrying.{RefusesUndef, UsesUndef, leaf_count}

-- the function with other positions
abbrev pub placed : Function → List Place → Function
placed f places = record f { places = places }

-- ---- edges

predecessor : (f : Function) (p : List Place) (label next : ℕ)
    → IsPredecessor (placed f p) label next → IsPredecessor f label next
predecessor f p label next h = record {
  block = h.block;
  stands = h.stands;
  labelled = h.labelled;
  leads = h.leads;
}

comes : (f : Function) (p : List Place) (b : Block) (phi : Phi) → ComesFromPredecessors f b phi
    → ComesFromPredecessors (placed f p) b phi
comes f p b phi h label = (
  λ c. predecessor (placed f p) f.places label b.label ((h label).0 c),
  λ c. (h label).1 (predecessor f p label b.label c),
)

unfit_phi : (f : Function) (p : List Place) (n : ℕ) → IsUnfitPhi (placed f p) n → IsUnfitPhi f n
unfolding steps
unfit_phi f p n h = record {
  type = h.type;
  name = h.name;
  here = h.here;
  block = h.block;
  place = h.place;
  part = h.part;
  holder = h.holder;
  holds = h.holds;
  phi = h.phi;
  stands = h.stands;
  unfit = elim h.unfit [
    | inl other ↦ inl (λ c. other (comes f p h.holder h.phi c))
    | inr two ↦ inr two
  ];
}

jumps : (f : Function) (p : List Place) (n : ℕ) → JumpsToEntry (placed f p) n → JumpsToEntry f n
unfolding steps
jumps f p n h = record {
  name = h.name;
  here = h.here;
  block = h.block;
  part = h.part;
  entry = h.entry;
  first = h.first;
  back = h.back;
}

edge : (f : Function) (p : List Place) (n : ℕ) → HasWrongEdge (placed f p) n → HasWrongEdge f n
edge f p n (inl h) = inl (unfit_phi f p n h)
edge f p n (inr h) = inr (jumps f p n h)

-- ---- assignment

missed : (f : Function) (p : List Place) (block : ℕ) (b : Block) (ran : List Inst) (name : ℕ)
    → IsMissed (placed f p) block b ran name → IsMissed f block b ran name
missed f p block b ran name h = record {
  stands = h.stands;
  left = h.left;
  path = h.path;
  outside = h.outside;
  before = h.before;
  within = h.within;
}

missed_behind : (f : Function) (p : List Place) (label name : ℕ)
    → IsMissedBehind (placed f p) label name → IsMissedBehind f label name
missed_behind f p label name h = record {
  block = h.block;
  b = h.b;
  labelled = h.labelled;
  missed = missed f p h.block h.b h.b.insts name h.missed;
}

missed_at : (f : Function) (p : List Place) (at : Part) (n name : ℕ)
    → IsMissedAt (placed f p) at n name → IsMissedAt f at n name
unfolding steps
missed_at f p part.Header n name h = absurd h
missed_at f p part.Parameter n name h = absurd h
missed_at f p (part.Label block) n name h = absurd h
missed_at f p (part.Phi block place) n name h = (h.0, h.1, missed_behind f p h.0 name h.2)
missed_at f p (part.Inst block place) n name h = (h.0, missed f p block h.0 _ name h.1)
missed_at f p (part.End block) n name h = (h.0, missed f p block h.0 _ name h.1)

unassigned : (f : Function) (p : List Place) (n : ℕ) → UsesUnassigned (placed f p) n
    → UsesUnassigned f n
unfolding steps
unassigned f p n h = record {
  type = h.type;
  name = h.name;
  here = h.here;
  part = h.part;
  stands = h.stands;
  missed = missed_at f p h.part n h.name h.missed;
}

-- ---- undef

refuses : (f : Function) (p : List Place) (at : Part) → RefusesUndef (placed f p) at → RefusesUndef f at
refuses f p part.Header h = absurd h
refuses f p part.Parameter h = absurd h
refuses f p (part.Label block) h = absurd h
refuses f p (part.Phi block place) h = tt
refuses f p (part.Inst block place) h = h
refuses f p (part.End block) h = h

undef : (f : Function) (p : List Place) (n : ℕ) → UsesUndef (placed f p) n → UsesUndef f n
unfolding steps leaf_count
undef f p n (inl u) = inl (record {
  type = u.type;
  name = u.name;
  here = u.here;
  carried = u.carried;
  part = u.part;
  stands = u.stands;
  refuses = refuses f p u.part u.refuses;
})
undef f p n (inr m) = inr (record {
  type = m.type;
  name = m.name;
  here = m.here;
  many = m.many;
})

-- ---- all of it

pub well_formed-placed : (f : Function) (p : List Place) → IsWellFormed f
    → IsWellFormed (placed f p)
unfolding steps
well_formed-placed f p h = record {
  names = (λ n fails. h.names.0 n fails, λ n fails. h.names.1 n fails);
  types = λ n fails. h.types n fails;
  edges = λ n fails. h.edges n (edge f p n fails);
  assigned = λ n fails. h.assigned n (unassigned f p n fails);
  undef = λ n fails. h.undef n (undef f p n fails);
}
