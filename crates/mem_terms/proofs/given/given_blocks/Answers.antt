use Rattle.std.proofs.Common.{◌≡◌, ◌∙◌, ◌<◌, length, ap, subst, arith}
use Rattle.mem_terms.specs.Values.{Each}
use Rattle.mem_terms.specs.Memory.{given_frames}
use Rattle.mem_terms.specs.Inputs.{IsByteTerms}
use Rattle.mem_terms.proofs.Eaches.{at-any, each-at}
use Rattle.mem_terms.proofs.Later.{byte_terms_each-later}
use Rattle.mem_terms.proofs.GivenTerms.{BlocksSoFar, blocks-more, blocks-whole, got}
use Rattle.mem_terms.proofs.given.given_blocks.Goals as goal

pub given_block-requires-clause-places : goal.given_block-requires-clause-places
given_block-requires-clause-places c =
    let lists = c.args.input.now.places in
    let lt : c.loop-i.i < length lists = omega (arith, c.loop-i-test.true, c.requires.count, ap length c.as_slice-size-items.ensures) in
    byte_terms_each-later c.args.terms.now c.loop-i.terms c.loop-i.invariant.kept c.as_slice-places.result.now
    (each-at (Each (IsByteTerms c.args.terms.now)) lists c.loop-i.i c.as_slice-places.result.now c.requires.places lt (got lists c.loop-i.i c.get.result.now c.as_slice-places.result.now c.get.ensures c.as_slice-places.ensures))

pub loop-i-preserved : goal.loop-i-preserved
loop-i-preserved c =
    let sizes = c.args.input.now.sizes in
    let lists = c.args.input.now.places in
    let lt : c.loop-i.i < length sizes = omega (arith, c.loop-i-test.true, ap length c.as_slice-size-items.ensures) in
    blocks-more c.args.terms.now c.loop-i.terms c.given_block.new.terms sizes lists c.loop-i.i _ c.as_slice-places.result.now c.loop-i.blocks.items c.push.new.self.items c.in_ok-block.block
    c.requires.sizes c.requires.places c.requires.count lt (rw c.as_slice-size-items.ensures (at-any sizes c.loop-i.i _ _ lt)) (got lists c.loop-i.i c.get.result.now c.as_slice-places.result.now c.get.ensures c.as_slice-places.ensures)
    c.loop-i.invariant c.given_block.ensures.kept c.in_ok-block.ensures.made c.in_ok-block.ensures.always c.in_ok-block.ensures.frame c.in_ok-block.ensures.stands c.in_ok-push.ensures.items

pub returns-clause-stands : goal.returns-clause-stands
returns-clause-stands c =
    let sizes = c.args.input.now.sizes in
    let lists = c.args.input.now.places in
    let whole : c.loop-i.i ≡ length sizes = omega (arith, c.loop-i-test.false, c.loop-i.auto.i-end, ap length c.as_slice-size-items.ensures) in
    rw c.from_vec.ensures
    (blocks-whole c.args.terms.now c.loop-i.terms sizes lists c.loop-i.blocks.items c.requires.count (subst (λ i. BlocksSoFar c.args.terms.now c.loop-i.terms sizes lists i c.loop-i.blocks.items) whole c.loop-i.invariant))

pub returns-clause-given : goal.returns-clause-given
returns-clause-given c = λ layout count are.
    let whole : c.loop-i.i ≡ layout.blocks = omega (arith, c.loop-i-test.false, c.loop-i.auto.i-end, ap length c.as_slice-size-items.ensures, count) in
    rw c.from_vec.ensures
    (record { are = c.loop-i.invariant.made; always = c.loop-i.invariant.always; frames = c.loop-i.invariant.frames layout.bytes are ∙ ap (λ n. given_frames 1 n layout.bytes) whole })
