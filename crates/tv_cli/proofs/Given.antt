-- A `check` or a `make` of which a part is missing is none; what `log` asks for.
use Rattle.std.specs.Option.{option_map_or, unwrap_or}
use Rattle.std.specs.Str.Parse.{ParsesBool}
use Rattle.clap.specs.Matches.{ReadsOne}
use Rattle.tv_cli.proofs.Common.{ap, bytes_eq-Decides, ◌≡◌, ℕ, Bool, true, false, List, Option, Some, None, option_map, codes, refl, sym, bytes_eq, Row, first_of, Bounds, Budget, Text, check_with, make_with, log, check_of_names, job_in_rows}

pub no_target : (source target : Option Text) (rows : List Row) → target ≡ None
    → check_of_names source target rows ≡ None
no_target None target rows e = refl
no_target (Some source) target rows e = rw e refl

pub no_bounds : (source target : Text) (bounds : Option Bounds) (budget : Option Budget) (workers : Option ℕ) (proof : Option (Option Text)) (first : Option Bool)
    → bounds ≡ None → check_with source target bounds budget workers proof first ≡ None
no_bounds source target bounds budget workers proof first e = rw e refl

pub no_budget : (source target : Text) (bounds : Option Bounds) (budget : Option Budget) (workers : Option ℕ) (proof : Option (Option Text)) (first : Option Bool)
    → budget ≡ None → check_with source target bounds budget workers proof first ≡ None
no_budget source target None budget workers proof first e = refl
no_budget source target (Some bounds) budget workers proof first e = rw e refl

pub no_workers : (source target : Text) (bounds : Option Bounds) (budget : Option Budget) (workers : Option ℕ) (proof : Option (Option Text)) (first : Option Bool)
    → workers ≡ None → check_with source target bounds budget workers proof first ≡ None
no_workers source target None budget workers proof first e = refl
no_workers source target (Some bounds) None workers proof first e = refl
no_workers source target (Some bounds) (Some budget) workers proof first e = rw e refl

pub no_proof : (source target : Text) (bounds : Option Bounds) (budget : Option Budget) (workers : Option ℕ) (proof : Option (Option Text)) (first : Option Bool)
    → proof ≡ None → check_with source target bounds budget workers proof first ≡ None
no_proof source target None budget workers proof first e = refl
no_proof source target (Some bounds) None workers proof first e = refl
no_proof source target (Some bounds) (Some budget) None proof first e = refl
no_proof source target (Some bounds) (Some budget) (Some workers) proof first e = rw e refl

pub no_first : (source target : Text) (bounds : Option Bounds) (budget : Option Budget) (workers : Option ℕ) (proof : Option (Option Text)) (first : Option Bool)
    → first ≡ None → check_with source target bounds budget workers proof first ≡ None
no_first source target None budget workers proof first e = refl
no_first source target (Some bounds) None workers proof first e = refl
no_first source target (Some bounds) (Some budget) None proof first e = refl
no_first source target (Some bounds) (Some budget) (Some workers) None first e = refl
no_first source target (Some bounds) (Some budget) (Some workers) (Some proof) first e = rw e refl

pub no_seed : (seed functions insts : Option ℕ) (bounds : Option Bounds) (budget : Option Budget) (workers : Option ℕ)
    → seed ≡ None → make_with seed functions insts bounds budget workers ≡ None
no_seed seed functions insts bounds budget workers e = rw e refl

pub no_functions : (seed functions insts : Option ℕ) (bounds : Option Bounds) (budget : Option Budget) (workers : Option ℕ)
    → functions ≡ None → make_with seed functions insts bounds budget workers ≡ None
no_functions None functions insts bounds budget workers e = refl
no_functions (Some seed) functions insts bounds budget workers e = rw e refl

pub no_insts : (seed functions insts : Option ℕ) (bounds : Option Bounds) (budget : Option Budget) (workers : Option ℕ)
    → insts ≡ None → make_with seed functions insts bounds budget workers ≡ None
no_insts None functions insts bounds budget workers e = refl
no_insts (Some seed) None insts bounds budget workers e = refl
no_insts (Some seed) (Some functions) insts bounds budget workers e = rw e refl

pub no_made_bounds : (seed functions insts : Option ℕ) (bounds : Option Bounds) (budget : Option Budget) (workers : Option ℕ)
    → bounds ≡ None → make_with seed functions insts bounds budget workers ≡ None
no_made_bounds None functions insts bounds budget workers e = refl
no_made_bounds (Some seed) None insts bounds budget workers e = refl
no_made_bounds (Some seed) (Some functions) None bounds budget workers e = refl
no_made_bounds (Some seed) (Some functions) (Some insts) bounds budget workers e = rw e refl

pub no_made_budget : (seed functions insts : Option ℕ) (bounds : Option Bounds) (budget : Option Budget) (workers : Option ℕ)
    → budget ≡ None → make_with seed functions insts bounds budget workers ≡ None
no_made_budget None functions insts bounds budget workers e = refl
no_made_budget (Some seed) None insts bounds budget workers e = refl
no_made_budget (Some seed) (Some functions) None bounds budget workers e = refl
no_made_budget (Some seed) (Some functions) (Some insts) None budget workers e = refl
no_made_budget (Some seed) (Some functions) (Some insts) (Some bounds) budget workers e = rw e refl

pub no_made_workers : (seed functions insts : Option ℕ) (bounds : Option Bounds) (budget : Option Budget) (workers : Option ℕ)
    → workers ≡ None → make_with seed functions insts bounds budget workers ≡ None
no_made_workers None functions insts bounds budget workers e = refl
no_made_workers (Some seed) None insts bounds budget workers e = refl
no_made_workers (Some seed) (Some functions) None bounds budget workers e = refl
no_made_workers (Some seed) (Some functions) (Some insts) None budget workers e = refl
no_made_workers (Some seed) (Some functions) (Some insts) (Some bounds) None workers e = refl
no_made_workers (Some seed) (Some functions) (Some insts) (Some bounds) (Some budget) workers e = rw e refl

-- the matches of `log`
pub log_in_rows : (command : Text) (rows : List Row) (file : Option Text)
    → bytes_eq (codes "check") command ≡ false → bytes_eq (codes "log") command ≡ true
    → file ≡ first_of (codes "FILE") rows
    → option_map log file ≡ job_in_rows (command, rows)
log_in_rows command rows file e f found = rw (e, f, found) refl

pub other_text : (x y : Text) → (x ≡ y → ⊥) → bytes_eq y x ≡ false
other_text x y other = go (bytes_eq y x) refl
  where
    go : (b : Bool) → bytes_eq y x ≡ b → bytes_eq y x ≡ false
    go true e = absurd (other (sym ((bytes_eq-Decides y x).0 e)))
    go false e = e

-- a flag is set where its text is that of `true`
pub set-read : (E : Type 0) (text : Option Text) (value : Option Bool) → (text ≡ None → value ≡ None)
    → ((t : Text) → text ≡ Some t → ReadsOne {T = Bool} {E = E} ParsesBool t value)
    → unwrap_or value false ≡ option_map_or (λ t. bytes_eq t (codes "true")) text false
set-read E None value none some = rw (none refl) refl
set-read E (Some t) value none some = go value (some t refl)
  where
    go : (found : Option Bool) → ReadsOne {T = Bool} {E = E} ParsesBool t found → unwrap_or found false ≡ bytes_eq t (codes "true")
    go (Some true) e = sym (ap (λ x. bytes_eq x (codes "true")) e)
    go (Some false) e = sym (ap (λ x. bytes_eq x (codes "true")) e)
    go None e = sym (other_text (codes "true") t (λ s. e.1.0 (sym s)))
