-- A term over the answers for what it names.
use Rattle.std.specs.Prelude.{List, slice_index_or, Option, None}
use Rattle.bv_terms.specs.declared.term.TermId.{TermId}
use Rattle.bv_terms.specs.declared.term.Term.{Term}
use Rattle.bv_terms.specs.declared.term.Term.TheVariants as term
use Rattle.bv_terms.specs.declared.variable.Variable.{Variable}
use Rattle.term_folds.specs.Substitution.{replacement_of}

-- the answer for an earlier term
abbrev pub id_at : List TermId → TermId → TermId
id_at done a = slice_index_or done a.index (record { index = 0 })

-- the same operation over the answers
abbrev pub term_over : List TermId → Term → Term
term_over done (term.Constant value width) = term.Constant value width
term_over done (term.Variable number width) = term.Variable number width
term_over done (term.Not a width) = term.Not (id_at done a) width
term_over done (term.Binary op a b width) = term.Binary op (id_at done a) (id_at done b) width
term_over done (term.Ite c a b width) = term.Ite (id_at done c) (id_at done a) (id_at done b) width
term_over done (term.Extract a from width) = term.Extract (id_at done a) from width
term_over done (term.Concat high low below width) = term.Concat (id_at done high) (id_at done low) below width
term_over done (term.Zext a width) = term.Zext (id_at done a) width
term_over done (term.Sext a from width) = term.Sext (id_at done a) from width

-- what replaces a term: nothing, unless it is a variable
abbrev pub replacement_in : List (Variable × TermId) → Term → Option TermId
replacement_in replacements (term.Variable number width) = replacement_of replacements (record { number = number; width = width })
replacement_in replacements _ = None
