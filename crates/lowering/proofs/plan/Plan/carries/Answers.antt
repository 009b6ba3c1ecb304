use Rattle.std.proofs.Common.{ap, sym, ◌∙◌, inl, inr}
use Rattle.ir_tree.specs.Carrying.{carries}
use Rattle.lowering.proofs.Enough.{carries_undef, carries_number, carries_null, carries_poison}
use Rattle.lowering.proofs.plan.Plan.carries.Goals as goal

pub returns-in-Undef : goal.returns-in-Undef
returns-in-Undef c = sym (ap (carries c.args.self.now.f.now) c.in-Undef.is ∙ carries_undef c.args.self.now.f.now)

pub returns-in-Number : goal.returns-in-Number
returns-in-Number c = sym (elim c.in-Number.is [
  | inl number ↦ ap (carries c.args.self.now.f.now) number.1 ∙ carries_number c.args.self.now.f.now number.0
  | inr (inl null) ↦ ap (carries c.args.self.now.f.now) null ∙ carries_null c.args.self.now.f.now
  | inr (inr poison) ↦ ap (carries c.args.self.now.f.now) poison ∙ carries_poison c.args.self.now.f.now
])
