-- What reading the tokens of a define answers.
use Rattle.ir_reader.proofs.Common.{◌≡◌, ◌≤◌, ◌<◌, ◌∙◌, true, List, [], ◌∷◌, length, get_or, inl, inr, refl, sym, ap, subst, arith, Err, Lexeme, Passes, PassesNames, IsRefusedAt, IfRefused, Reason, NameTwice, NameUnknown, TypeClash, PhiEdges, Unassigned, UndefUse, Function, Spells, StopsPast, WrittenFunction, reason, define, numbered, IsUnfit, tested, unfit, past, Answers, Writes, Tests, fault_at}
use Rattle.ir_check.specs.Told.{IsToldAt, AreNamesToldAt}
use Rattle.ir_tree.specs.declared.module.CheckFault.{CheckFault}
use Rattle.ir_tree.specs.declared.module.CheckFault.TheVariants as fault
use Rattle.token_forms.specs.declared.fault.ReadFault.{ReadFault}
use Rattle.token_forms.specs.declared.fault.ReadFault.TheVariants as stop
use Rattle.token_forms.specs.Spelled.{SpellsOrStops}
use Rattle.token_forms.proofs.RefusedAgain.{refused-again}
use Rattle.ir_reader.proofs.StopReasons.{unfit-behind, unfit-why}

nil-of : (rest : List Lexeme) → length rest < 1 → rest ≡ []
nil-of [] h = refl
nil-of (t ∷ q) h = absurd (omega arith)

pub writes-whole : (ts rest : List Lexeme) (w : WrittenFunction) → Spells true define w ts rest → length rest < 1 → Spells true define w ts []
writes-whole ts rest w s h = subst (λ (us : List Lexeme). Spells true define w ts us) (nil-of rest h) s

-- a token is left after the function
pub writes-more : (ts rest left : List Lexeme) (w : WrittenFunction) (why : Reason) (first : Lexeme) → Spells true define w ts rest → left ≡ rest → 1 ≤ length left → first ≡ get_or left 0 first → why ≡ reason first → Writes ts (Err (fault_at (stop.Unfit why) ts left))
writes-more ts rest [] w why first s l h is why-is = absurd (omega arith)
writes-more ts rest (t ∷ q) w why first s l h is why-is =
    let here : Spells true define w ts (t ∷ q) = subst (λ (us : List Lexeme). Spells true define w ts us) (sym l) s in
    unfit why (t ∷ q) (subst (λ (r : Reason). IsUnfit r ts (t ∷ q)) (sym (why-is ∙ ap (λ (u : Lexeme). reason u) is)) (unfit-behind ts w t q here))

pub writes-fault : (ts rest left : List Lexeme) (fault : ReadFault) → SpellsOrStops define (Err fault) ts rest → left ≡ rest → Writes ts (Err (fault_at fault ts left))
writes-fault ts rest left (stop.Unfit why) s l =
    let here = subst (λ (us : List Lexeme). SpellsOrStops define (Err (stop.Unfit why)) ts us) (sym l) s in
    unfit why left (unfit-why ts left why (refused-again define why ts left here.1))
writes-fault ts rest left stop.PastLimit s l = past left (subst (λ (us : List Lexeme). StopsPast define ts us) (sym l) s)
writes-fault ts rest left stop.NoMemory s l = tt

-- ---- the checks of a function, each after those before it

pub names-tested : (f : Function) (fault : CheckFault) → IfRefused (AreNamesToldAt f) fault → Tests f (Err fault)
names-tested f (fault.Refused refused) (inl T) = (NameTwice, record { site = T.site; tested = T.first; told = T.told })
names-tested f (fault.Refused refused) (inr (once, T)) = (NameUnknown, record { site = T.site; tested = (once, T.first); told = T.told })
names-tested f fault.NoMemory t = tt

pub types-tested : (f : Function) (fault : CheckFault) → PassesNames f → IfRefused (IsToldAt TypeClash f) fault → Tests f (Err fault)
types-tested f (fault.Refused refused) names T = (TypeClash, record { site = T.site; tested = (names, T.first); told = T.told })
types-tested f fault.NoMemory names t = tt

pub edges-tested : (f : Function) (fault : CheckFault) → PassesNames f → Passes TypeClash f → IfRefused (IsToldAt PhiEdges f) fault → Tests f (Err fault)
edges-tested f (fault.Refused refused) names types T = (PhiEdges, record { site = T.site; tested = (names, types, T.first); told = T.told })
edges-tested f fault.NoMemory names types t = tt

pub assigned-tested : (f : Function) (fault : CheckFault) → PassesNames f → Passes TypeClash f → Passes PhiEdges f → IfRefused (IsToldAt Unassigned f) fault → Tests f (Err fault)
assigned-tested f (fault.Refused refused) names types edges T = (Unassigned, record { site = T.site; tested = (names, types, edges, T.first); told = T.told })
assigned-tested f fault.NoMemory names types edges t = tt

pub undef-tested : (f : Function) (fault : CheckFault) → PassesNames f → Passes TypeClash f → Passes PhiEdges f → Passes Unassigned f → IfRefused (IsToldAt UndefUse f) fault → Tests f (Err fault)
undef-tested f (fault.Refused refused) names types edges assigned T = (UndefUse, record { site = T.site; tested = (names, types, edges, assigned, T.first); told = T.told })
undef-tested f fault.NoMemory names types edges assigned t = tt

pub answers-tested : (ts : List Lexeme) (w : WrittenFunction) (f : Function) (fault : CheckFault) → Spells true define w ts [] → f ≡ numbered w → Tests f (Err fault) → Answers ts (Err fault)
answers-tested ts w f (fault.Refused refused) s e (why, R) = tested w why refused s (subst (λ (g : Function). IsRefusedAt why g refused) e R)
answers-tested ts w f fault.NoMemory s e t = tt
