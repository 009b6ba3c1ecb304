use Rattle.ir_printer.proofs.Common.{◌≡◌, ◌++◌, ◌∙◌, [], ap, sym, arith, unwrap_or, Word, name_in, common_steps}
use Rattle.std.proofs.lemmas.Option.{unwrap_or-slice_get}
use Rattle.ir_naming.specs.Naming.{name_text}
use Rattle.ir_printer.proofs.pieces.push_name_of.Goals as goal

-- the table has no name of this number
pub returns-in_ok-extend_from_slice-in-None : goal.returns-in_ok-extend_from_slice-in-None
returns-in_ok-extend_from_slice-in-None c =
    let missing : name_in c.args.names.now c.args.n ≡ Word [] =
    sym (unwrap_or-slice_get c.args.names.now c.args.n (Word [])) ∙ ap (λ o. unwrap_or o (Word [])) (sym c.in-None.ensures) in
    (grind (arith, common_steps)) ∙ ap (λ name. c.args.out.now.items ++ name_text name) (sym missing)
