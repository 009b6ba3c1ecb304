-- Bits of a term stay its bits as gates and variables are added.
use Rattle.std.proofs.Common.{ap, ◌∙◌, List}
use Rattle.bv_terms.specs.Tree.{Tree}
use Rattle.gates.specs.declared.circuit.GateId.{GateId}
use Rattle.gate_arith.specs.Numbers.{number_of}
use Rattle.gate_arith.proofs.Digits.{gates_later, map-grown}
use Rattle.gate_arith.proofs.Known.{grows_self, grows_trans}
use Rattle.bit_blast.specs.Bits.{AreBits}
use Rattle.bit_blast.specs.Table.{Blasted, Follows}

pub follows_self : (a : Blasted) → Follows a a
follows_self a = record { grows = grows_self a.gates; table = λ x digits h. h }

pub follows_trans : (a b c : Blasted) → Follows a b → Follows b c → Follows a c
follows_trans a b c p q = record {
  grows = grows_trans a.gates b.gates c.gates p.grows q.grows;
  table = λ x digits h. q.table x digits (p.table x digits h);
}

pub bits_kept : (a b : Blasted) (tree : Tree) (digits : List GateId) → Follows a b → AreBits a.gates a.table tree digits → AreBits b.gates b.table tree digits
bits_kept a b tree digits f h = record {
  within = gates_later a.gates b.gates digits f.grows.longer h.within;
  long = h.long;
  says = λ inputs v agrees.
      ap number_of (map-grown a.gates b.gates f.grows digits h.within inputs) ∙ h.says inputs v (λ x own found. agrees x own (f.table x own found));
}
