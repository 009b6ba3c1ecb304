-- The closing marks of nested arrays, one after another.
use Rattle.ir_grammar.proofs.Common.{◌≡◌, ℕ, zero, suc, ◌-◌, ◌<◌, true, List, refl, codes, arith, Lexeme, Why, reads, stops, token_of, read, any, as_mark, closers}
use Rattle.ir_words.specs.Reasons.{reason}

pub closer_more : (n : ℕ) (ts rest : List Lexeme) → 0 < n → token_of true (as_mark (codes "]")) any reason ts ≡ reads tt rest → read true (closers n) ts ≡ read true (closers (n - 1)) rest
closer_more zero ts rest h e = absurd (omega (arith, h))
closer_more (suc n) ts rest h e = let less : suc n - 1 ≡ n = omega arith in rw (e, less) refl

pub closer_stops : (n : ℕ) (why : Why) (ts rest : List Lexeme) → 0 < n → token_of true (as_mark (codes "]")) any reason ts ≡ stops why rest → read true (closers n) ts ≡ stops why rest
closer_stops zero why ts rest h e = absurd (omega (arith, h))
closer_stops (suc n) why ts rest h e = rw e refl
