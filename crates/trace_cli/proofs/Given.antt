-- A request of which a part is missing is none, and so is one that a walk refuses.
use Rattle.std.proofs.Common.{◌≡◌, ◌≢◌, true, List, [], ◌∷◌, Option, Some, None, refl, sym, ap, subst, ◌∙◌, inl, inr}
use Rattle.clap.specs.Words.{Row, HasKind, Kinds, fault_of, is_simple, is_simple_and_free, kind_of, matches_of}
use Rattle.clap.specs.declared.Error.{Error}
use Rattle.clap.specs.declared.error.ErrorKind.TheVariants as kind
use Rattle.clap.proofs.OnLiterals.{clap_on_literals}
use Rattle.points.specs.declared.point.Bounds.{Bounds}
use Rattle.points.specs.declared.point.Budget.{Budget}
use Rattle.tv_cli.specs.Words.{Text}
use Rattle.tv_cli.specs.Walked.{unless_fault}
use Rattle.trace_cli.specs.Words.{request_in_rows, request_of, request_with, trace_app}

module _ (source target function report : Option Text) (bounds : Option Bounds) (budget : Option Budget) where
  pub no_source : source ≡ None → request_with source target function report bounds budget ≡ None
  no_source e = rw e refl

pub no_target : (source target function report : Option Text) (bounds : Option Bounds) (budget : Option Budget)
    → target ≡ None → request_with source target function report bounds budget ≡ None
no_target None target function report bounds budget e = refl
no_target (Some source) target function report bounds budget e = rw e refl

pub no_function : (source target function report : Option Text) (bounds : Option Bounds) (budget : Option Budget)
    → function ≡ None → request_with source target function report bounds budget ≡ None
no_function None target function report bounds budget e = refl
no_function (Some source) None function report bounds budget e = refl
no_function (Some source) (Some target) function report bounds budget e = rw e refl

pub no_bounds : (source target function report : Option Text) (bounds : Option Bounds) (budget : Option Budget)
    → bounds ≡ None → request_with source target function report bounds budget ≡ None
no_bounds None target function report bounds budget e = refl
no_bounds (Some source) None function report bounds budget e = refl
no_bounds (Some source) (Some target) None report bounds budget e = refl
no_bounds (Some source) (Some target) (Some function) report bounds budget e = rw e refl

pub no_budget : (source target function report : Option Text) (bounds : Option Bounds) (budget : Option Budget)
    → budget ≡ None → request_with source target function report bounds budget ≡ None
no_budget None target function report bounds budget e = refl
no_budget (Some source) None function report bounds budget e = refl
no_budget (Some source) (Some target) None report bounds budget e = refl
no_budget (Some source) (Some target) (Some function) report None budget e = refl
no_budget (Some source) (Some target) (Some function) report (Some bounds) budget e = rw e refl

-- ---- what a walk says

pub trace_is_simple : is_simple_and_free trace_app ≡ true
unfolding clap_on_literals
trace_is_simple = refl

pub trace_is_read : is_simple trace_app ≡ true
unfolding clap_on_literals
trace_is_read = refl

pub walked-found : (words : List Text) (rows : List Row) → fault_of trace_app words ≡ [] → rows ≡ matches_of trace_app words → request_in_rows rows ≡ request_of words
walked-found words rows none found = ap request_in_rows found ∙ sym (ap (λ kinds. unless_fault kinds (request_in_rows (matches_of trace_app words))) none)

walked-fault : (words : List Text) → fault_of trace_app words ≢ [] → request_of words ≡ None
walked-fault words some = nothing (fault_of trace_app words) some where
  nothing : (kinds : Kinds) → kinds ≢ [] → unless_fault kinds (request_in_rows (matches_of trace_app words)) ≡ None
  nothing [] ne = absurd (ne refl)
  nothing (kind ∷ kinds) ne = refl

pub walked-refused : (words : List Text) (e : Error) → HasKind (fault_of trace_app words) e → ¬ (kind_of e ≡ kind.OutOfMemory) → None ≡ request_of words
walked-refused words e has other = sym (walked-fault words (λ none. none_has (subst (λ kinds. HasKind kinds e) none has))) where
  none_has : HasKind [] e → ⊥
  none_has (inl memory) = other memory
  none_has (inr among) = among
