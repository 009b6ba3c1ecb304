use Rattle.std.proofs.Common.{◌≡◌, ◌∙◌, ◌<◌, ◌++◌, List, [], length, get_or, ℕ, ap, arith}
use Rattle.std.proofs.lemmas.List.{get_or_default}
use Rattle.undef_uses.specs.Users.{users_at}
use Rattle.undef_uses.proofs.CountLemmas.{stays, rises, steps-stay, steps-rise, taken, leaves_are, count_is}
use Rattle.undef_uses.proofs.counting.settle.Goals as goal

-- the users of a name come after the others
joined : (users : List (List ℕ)) (rest after read row : List ℕ) (name : ℕ) → name < length users → after ≡ rest ++ read → read ≡ row → row ≡ get_or users name row → after ≡ rest ++ users_at users name
joined users rest after read row name below more same is = more ∙ ap (λ (ns : List ℕ). rest ++ ns) (same ∙ (is ∙ get_or_default users name row [] below))

pub loop-name-preserved : goal.loop-name-preserved
loop-name-preserved c =
    let within = taken (length c.args.table.now) c.loop-name.waiting.items c.pop.new.self.items c.in-Some.name c.in-Some.ensures.items c.loop-name.invariant.names in
    let leaves = leaves_are c.args.table.now c.loop-name.counts.items c.deref.result.now c.in-Some.name c.leaves_in-leaves.result _ c.deref.ensures.value within c.leaves_in-leaves.ensures.leaves in
    let count = count_is c.loop-name.counts.items c.in-Some.name c.index.result.now (omega (arith, within, c.loop-name.invariant.long)) c.index.ensures in
    stays c.args.table.now c.loop-name.counts.items c.loop-name.waiting.items c.pop.new.self.items c.in-Some.name c.in-Some.ensures.items (omega (arith, leaves, count, c.if-leaves-index.false)) c.loop-name.invariant

pub loop-name-smaller : goal.loop-name-smaller
loop-name-smaller c = steps-stay c.args.users.now c.loop-name.counts.items c.loop-name.waiting.items c.pop.new.self.items c.in-Some.name c.in-Some.ensures.items

pub loop-name-preserved-in-Continue-1 : goal.loop-name-preserved-in-Continue-1
loop-name-preserved-in-Continue-1 c =
    let within = taken (length c.args.table.now) c.loop-name.waiting.items c.pop.new.self.items c.in-Some.name c.in-Some.ensures.items c.loop-name.invariant.names in
    let leaves = leaves_are c.args.table.now c.loop-name.counts.items c.deref.result.now c.in-Some.name c.leaves_in-leaves.result _ c.deref.ensures.value within c.leaves_in-leaves.ensures.leaves in
    let count = count_is c.loop-name.counts.items c.in-Some.name c.index.result.now (omega (arith, within, c.loop-name.invariant.long)) c.index.ensures in
    let after = joined c.args.users.now c.pop.new.self.items c.extend_from_slice.new.self.items c.as_slice.result.now c.index-users-name.result c.in-Some.name (omega (arith, within, c.requires.users.long)) c.in_ok-extend_from_slice.ensures.items c.as_slice.ensures c.index-users-name.is in
    rises c.args.table.now c.args.users.now c.loop-name.counts.items c.loop-name.waiting.items c.pop.new.self.items c.extend_from_slice.new.self.items c.in-Some.name c.leaves_in-leaves.result c.in-Some.ensures.items after within leaves
    (omega (arith, count, c.if-leaves-index.true)) c.requires.users c.loop-name.invariant

pub loop-name-smaller-in-Continue-1 : goal.loop-name-smaller-in-Continue-1
loop-name-smaller-in-Continue-1 c =
    let within = taken (length c.args.table.now) c.loop-name.waiting.items c.pop.new.self.items c.in-Some.name c.in-Some.ensures.items c.loop-name.invariant.names in
    let inside : c.in-Some.name < length c.loop-name.counts.items = omega (arith, within, c.loop-name.invariant.long) in
    let used : c.in-Some.name < length c.args.users.now = omega (arith, within, c.requires.users.long) in
    let count = count_is c.loop-name.counts.items c.in-Some.name c.index.result.now inside c.index.ensures in
    let after = joined c.args.users.now c.pop.new.self.items c.extend_from_slice.new.self.items c.as_slice.result.now c.index-users-name.result c.in-Some.name used c.in_ok-extend_from_slice.ensures.items c.as_slice.ensures c.index-users-name.is in
    steps-rise c.args.users.now c.loop-name.counts.items c.loop-name.waiting.items c.pop.new.self.items c.extend_from_slice.new.self.items c.in-Some.name c.leaves_in-leaves.result c.in-Some.ensures.items after inside used
    (omega (arith, count, c.if-leaves-index.true)) c.leaves_in-leaves.ensures.most
