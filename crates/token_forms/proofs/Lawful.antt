-- What holds of reading by each form.
use Rattle.token_forms.proofs.Common.{◌≡◌, Bool, false, [], ◌∷◌, length, ◌∙◌, Lexeme, Syntax, never, Form, give, one, seq, upto, peek, tail, mapped, unfit, limit, reads, parts, read, balanced, until_closed, Bracket}
use Rattle.token_forms.proofs.Balanced.{all_closing, closed-ends, closed-whole, closed-halts}
use Rattle.token_forms.proofs.Laws.{Lawful}
use Rattle.token_forms.proofs.Tokens.{give_lawful, one_lawful}
use Rattle.token_forms.proofs.Joined.{seq_lawful, upto_lawful}
use Rattle.token_forms.proofs.Peeked.{peek_lawful}
use Rattle.token_forms.proofs.Parts.{tail_lawful, tail-empty}
use Rattle.token_forms.proofs.Open.{also_lawful, give-empty}

pub balanced_lawful : (b : Bracket) → Lawful never (λ ts. until_closed (b ∷ []) ts) (λ ts. until_closed (b ∷ []) ts)
balanced_lawful b = record {
  whole = λ ts x rest e. let (front, split, again) = closed-whole (b ∷ []) ts x rest e in record { front = front; split = split; again = λ r f. again r };
  halts = λ ts why rest e. let H = closed-halts (b ∷ []) ts why rest e in record {
    front = H.front;
    split = H.split;
    again = H.again;
    ends = record { more = H.more; value = tt; whole = λ r f. H.ends r };
    past_limit = λ f. let never : unfit Syntax ≡ limit = H.why_is ∙ f in absurd (cc never);
  };
  lifts = λ ts x rest e. e;
  lifts_unfit = λ ts reason rest e. e;
  ends = record { more = all_closing (b ∷ []); value = tt; whole = λ r f. closed-ends (b ∷ []) r };
}

pub read_lawful : {o : Lexeme → Bool} {X : Type 0} (b : Bool) (f : Form o X) → Lawful o (λ ts. read b f ts) (λ ts. read false f ts)
read_lawful b (give x) = give_lawful x
read_lawful b (one c) = one_lawful b c
read_lawful b (seq f k) = seq_lawful (λ ts. read b f ts) (λ ts. read false f ts) (λ a ts. read b (k a) ts) (λ a ts. read false (k a) ts) (read_lawful b f) (λ a. read_lawful b (k a))
read_lawful b (upto f c fits) = upto_lawful b (λ ts. read b f ts) (λ ts. read false f ts) c fits (read_lawful b f)
read_lawful b (peek c f d g) = peek_lawful b c (λ a ts. read b (f a) ts) (λ a ts. read false (f a) ts) d (λ y ts. read b (g y) ts) (λ y ts. read false (g y) ts) (λ a. read_lawful b (f a)) (λ y. read_lawful b (g y))
read_lawful {o} {X} b (tail goes_on begins within part f) = also_lawful (λ ts. read b f ts) (λ ts. read false f ts)
    (λ s ts. parts b goes_on begins within (λ s' a r. read b (part s' a) r) (length ts) s ts) (λ s ts. parts false goes_on begins within (λ s' a r. read false (part s' a) r) (length ts) s ts)
    (read_lawful b f) (λ s. tail_lawful b goes_on begins within (λ s' a ts. read b (part s' a) ts) (λ s' a ts. read false (part s' a) ts) (λ s' a. read_lawful b (part s' a)) s)
    (λ s. tail-empty b goes_on begins within (λ s' a ts. read b (part s' a) ts) (λ s' a ts. read false (part s' a) ts) (λ s' a. read_lawful b (part s' a)) s)
read_lawful b (balanced c) = balanced_lawful c
read_lawful b (mapped k f) = also_lawful (λ ts. read b f ts) (λ ts. read false f ts) (λ a ts. reads (k a) ts) (λ a ts. reads (k a) ts) (read_lawful b f) (λ a. give_lawful (k a)) (λ a. give-empty (k a))
