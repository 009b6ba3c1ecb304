use Rattle.ir_grammar.proofs.Common.{◌≡◌, ◌≤◌, List, true, length, err_from_is_err_and, Lexeme, Reading, reads, read, shorter, at_start, no_more, one_more, begins-shorter, Left, Some, arith, any, is_comma, line_comma, with_comma, behind_commas, WrittenLine}
use Rattle.ir_grammar.proofs.cursor.Cursor.behind_commas.Goals as goal
use Rattle.token_forms.proofs.Loops.{part_stops}
use Rattle.token_forms.specs.Answer.{Fails}
use Rattle.token_forms.specs.Form.{begin_of, unfit, limit}
use Rattle.token_forms.specs.declared.fault.ReadFault.{ReadFault}
use Rattle.token_forms.specs.declared.fault.ReadFault.TheVariants.{Unfit, PastLimit, NoMemory}

abbrev part : WrittenLine → Unit {0} → List Lexeme → Reading (WrittenLine)
part s a ts = read true (with_comma s) ts

short : (s : WrittenLine) (a : Unit {0}) (ts : List Lexeme) (x : WrittenLine) (rest : List Lexeme) → part s a ts ≡ reads x rest → length rest ≤ length ts
short s a ts x rest e = shorter true (with_comma s) ts x rest e

pub loop-self-init : goal.loop-self-init
unfolding behind_commas
loop-self-init c = at_start is_comma line_comma (λ l. any) part c.args.line c.args.self.now

-- a comma was passed, and then reading fails
fails : (s : WrittenLine) (ts q rest : List Lexeme) (fault : ReadFault) (whole : Reading WrittenLine) → begin_of true is_comma (line_comma s) any ts ≡ reads (Some tt) q → Fails fault rest (part s tt q) → Left is_comma line_comma (λ l. any) part s ts whole → Fails fault rest whole
fails s ts q rest (Unfit reason) whole e p left = part_stops is_comma line_comma (λ l. any) part s ts q rest tt (unfit reason) whole e p left
fails s ts q rest PastLimit whole e p left = part_stops is_comma line_comma (λ l. any) part s ts q rest tt limit whole e p left
fails s ts q rest NoMemory whole e p left = tt

pub returns-in_err-so_far : goal.returns-in_err-so_far
returns-in_err-so_far c =
    let p = err_from_is_err_and c.from_residual.result c.from_residual.ensures.1 in
    rw (p.1, p.2) (fails c.loop-self.so_far c.loop-self.self c.eat_comma.new.self c.with_comma.new.self _ _ (rw c.loop-self-test.true at c.eat_comma.ensures) c.in_err-so_far.ensures c.loop-self.invariant)

pub loop-self-smaller : goal.loop-self-smaller
loop-self-smaller c =
    let comma : begin_of true is_comma (line_comma c.loop-self.so_far) any c.loop-self.self ≡ reads (Some tt) c.eat_comma.new.self = rw c.loop-self-test.true at c.eat_comma.ensures in
    omega (arith, begins-shorter is_comma line_comma (λ l. any) part c.loop-self.so_far c.loop-self.self tt c.eat_comma.new.self comma, short c.loop-self.so_far tt c.eat_comma.new.self c.in_ok-so_far.so_far c.with_comma.new.self c.in_ok-so_far.ensures)

pub loop-self-preserved : goal.loop-self-preserved
loop-self-preserved c =
    let comma : begin_of true is_comma (line_comma c.loop-self.so_far) any c.loop-self.self ≡ reads (Some tt) c.eat_comma.new.self = rw c.loop-self-test.true at c.eat_comma.ensures in
    one_more is_comma line_comma (λ l. any) part c.loop-self.so_far c.in_ok-so_far.so_far c.loop-self.self c.eat_comma.new.self c.with_comma.new.self tt _ comma c.in_ok-so_far.ensures
    (short c.loop-self.so_far tt c.eat_comma.new.self c.in_ok-so_far.so_far c.with_comma.new.self c.in_ok-so_far.ensures) c.loop-self.invariant

pub returns : goal.returns
returns c = no_more is_comma line_comma (λ l. any) part c.loop-self.so_far c.loop-self.self c.eat_comma.new.self _ (rw c.loop-self-test.false at c.eat_comma.ensures) c.loop-self.invariant
