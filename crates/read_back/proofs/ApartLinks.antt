-- Tokens that stay apart, put together from their parts.
use Rattle.read_back.proofs.Common.{◌≡◌, ℕ, true, List, [], ◌∷◌, ◌++◌, Some, refl, sym, ap, ◌∙◌, append_assoc, subst, list_all, or_left, Kind, is_blank, class_of, Piece, piece_text, text_of, is_separator, ends_token, is_separator_alone, is_ended, AreApart}
use Rattle.ir_lexer.specs.declared.token.Kind.TheVariants as kind

-- a token of its class after blanks, which ends where other tokens end before it
pub record IsToken (p : Piece) : Type 0 where
  pub blanks : list_all is_blank p.gap ≡ true
  pub class : class_of p.text ≡ Some p.kind
  pub ended : (rest : List ℕ) → ends_token rest ≡ true → is_ended p.kind p.text rest ≡ true

-- tokens before which others end
abbrev BeginsApart : List Piece → Type 0
BeginsApart ps = (rest : List ℕ) → ends_token rest ≡ true → ends_token (text_of ps ++ rest) ≡ true

-- before what begins apart they stay apart
pub record Stands (ps : List Piece) : Type 0 where
  pub apart : (more : List Piece) (last : List ℕ) → ends_token (text_of more ++ last) ≡ true → AreApart more last → AreApart (ps ++ more) last

-- and they begin apart too
pub record Links (ps : List Piece) : Type 0 where
  pub stands : Stands ps
  pub begins : BeginsApart ps

abbrev pub BeginsAlone : Piece → Type 0
BeginsAlone p = (rest : List ℕ) → ends_token (piece_text p ++ rest) ≡ true

-- a token that begins apart
pub record IsFree (p : Piece) : Type 0 where
  pub token : IsToken p
  pub alone : BeginsAlone p

-- a mark that begins no longer token, which anything may follow
pub record IsAlone (p : Piece) : Type 0 where
  pub free : IsFree p
  pub mark : p.kind ≡ kind.Mark

text-append : (ps qs : List Piece) → text_of (ps ++ qs) ≡ text_of ps ++ text_of qs
text-append [] qs = refl
text-append (p ∷ ps) qs = ap (λ (t : List ℕ). piece_text p ++ t) (text-append ps qs) ∙ sym (append_assoc (piece_text p) (text_of ps) (text_of qs))

text-more : (ps qs : List Piece) (last : List ℕ) → text_of (ps ++ qs) ++ last ≡ text_of ps ++ (text_of qs ++ last)
text-more ps qs last = ap (λ (t : List ℕ). t ++ last) (text-append ps qs) ∙ append_assoc (text_of ps) (text_of qs) last

pub nothing-links : Links []
nothing-links = record { stands = record { apart = λ more last h a. a }; begins = λ rest h. h }

pub links-append : (ps qs : List Piece) → Links ps → Links qs → Links (ps ++ qs)
links-append ps qs a b = record {
  stands = record {
    apart = λ more last h apart.
        let whole : (ps ++ qs) ++ more ≡ ps ++ (qs ++ more) = append_assoc ps qs more in
        let ends : ends_token (text_of (qs ++ more) ++ last) ≡ true = ap ends_token (text-more qs more last) ∙ b.begins (text_of more ++ last) h in
        subst (λ (l : List Piece). AreApart l last) (sym whole) (a.stands.apart (qs ++ more) last ends (b.stands.apart more last h apart));
  };
  begins = λ rest h. ap ends_token (text-more ps qs rest) ∙ a.begins (text_of qs ++ rest) (b.begins rest h);
}

pub stands-append : (ps qs : List Piece) → Stands ps → Links qs → Stands (ps ++ qs)
stands-append ps qs a b = record {
  apart = λ more last h apart.
      let whole : (ps ++ qs) ++ more ≡ ps ++ (qs ++ more) = append_assoc ps qs more in
      let ends : ends_token (text_of (qs ++ more) ++ last) ≡ true = ap ends_token (text-more qs more last) ∙ b.begins (text_of more ++ last) h in
      subst (λ (l : List Piece). AreApart l last) (sym whole) (a.apart (qs ++ more) last ends (b.stands.apart more last h apart));
}

pub token-stands : (p : Piece) (ps : List Piece) → IsToken p → Links ps → Stands (p ∷ ps)
token-stands p ps token links = record {
  apart = λ more last h apart.
      let ends : ends_token (text_of (ps ++ more) ++ last) ≡ true = ap ends_token (text-more ps more last) ∙ links.begins (text_of more ++ last) h in
      (record { blanks = token.blanks; class = token.class; ended = token.ended (text_of (ps ++ more) ++ last) ends }, links.stands.apart more last h apart);
}

begins_free : (p : Piece) (ps : List Piece) → BeginsAlone p → BeginsApart (p ∷ ps)
begins_free p ps alone rest h = ap ends_token (append_assoc (piece_text p) (text_of ps) rest) ∙ alone (text_of ps ++ rest)

pub free-links : (p : Piece) (ps : List Piece) → IsFree p → Links ps → Links (p ∷ ps)
free-links p ps free links = record { stands = token-stands p ps free.token links; begins = begins_free p ps free.alone }

mark_ends : (k : Kind) (t rest : List ℕ) → k ≡ kind.Mark → is_ended k t [] ≡ true → is_ended k t rest ≡ true
mark_ends k t rest e h =
    let h' : is_separator_alone t ≡ true = (rw e at h) in
    rw e h'

pub mark-links : (p : Piece) (ps : List Piece) → IsAlone p → Stands ps → Links (p ∷ ps)
mark-links p ps alone stands = record {
  stands = record {
    apart = λ more last h apart.
        (record { blanks = alone.free.token.blanks; class = alone.free.token.class; ended = mark_ends p.kind p.text (text_of (ps ++ more) ++ last) alone.mark (alone.free.token.ended [] refl) }, stands.apart more last h apart);
  };
  begins = begins_free p ps alone.free.alone;
}

-- ---- one token

blank_begins : (b : ℕ) (gap text rest : List ℕ) → is_blank b ≡ true → ends_token ((((b ∷ gap) ++ text)) ++ rest) ≡ true
blank_begins b gap text rest h = or_left (is_blank b) (is_separator b) h

-- after a blank
pub gap-alone : (p : Piece) (b : ℕ) (gap : List ℕ) → p.gap ≡ b ∷ gap → is_blank b ≡ true → BeginsAlone p
gap-alone p b gap e h rest =
    let g : ends_token (((b ∷ gap) ++ p.text) ++ rest) ≡ true = blank_begins b gap p.text rest h in
    rw e g
