-- A head and data that were written are the reply that an answer tells of.
use Rattle.std.proofs.Common.{◌≡◌, ℕ, ◌+◌, ◌*◌, List, length, None, Option, sym, refl, ap, ◌∙◌, length-append}
use lib.Seq.{sets}
use Rattle.wire.specs.declared.code.Code.{Code}
use Rattle.wire.specs.Numbers.{per_byte}
use Rattle.frame.specs.declared.fault.Fault.{Fault}
use Rattle.frame.specs.declared.header.Header.{Header}
use Rattle.frame.specs.Replies.{head_size, head_bytes, reply_bytes}
use Rattle.frame.proofs.Heads.{length_head, head_then_data}
use Rattle.memory.specs.Meaning.{Meaning}
use Rattle.memory.specs.Leaving.{Write, Leaving, Leads, Tries}
use Rattle.server.specs.declared.answer.Answer.{Answer}
use Rattle.server.specs.Answers.{accepted, no_data, answer_bytes}
use Rattle.server.specs.Registered.{Listed}
use Rattle.server.proofs.Trying.{AllTaken, all_made}
use Rattle.server.specs.Serves.{Tells, Came, finished, wrote}

pub reply_told : (code : Code) (h : Header) (end n at : ℕ) (met : Option Fault) (bytes r₀ r₁ r₂ : List ℕ) (answer : Answer)
    → answer.taken ≡ h.size → answer.length ≡ at + n → answer.fault ≡ met
    → length bytes ≡ n → at ≡ head_size h.form * per_byte code
    → r₁ ≡ sets r₀ 0 (head_bytes code h n end) → r₂ ≡ sets r₁ at bytes
    → Tells h.size (reply_bytes code h end bytes) met answer r₀ r₂
reply_told code h end n at met bytes r₀ r₁ r₂ answer t l f e a p q =
    record {
      takes = t;
      long = l ∙ sym (length-append (head_bytes code h (length bytes) end) bytes ∙ (λ i. (length_head code h (length bytes) end ∙ sym a) i + e i));
      meets = f;
      reply = q ∙ ap (λ r. sets r at bytes) p ∙ head_then_data code h end n at bytes r₀ e a;
    }

-- writes that the memory takes, and a reply without data
pub came_wrote : {S : Type 0} (means : S → Meaning) (leaves : Leaving S) (code : Code) (h : Header) (s t : S) (g : Option Listed) (ws : List Write) (a : Answer) (r r' : List ℕ)
    → Leads (Tries means leaves) s ws t → AllTaken (means s) ws → Tells h.size (answer_bytes code h (accepted no_data)) None a r r'
    → Came (finished code h (wrote ws (means s) g)) a r r' (means t) g
came_wrote means leaves code h s t g ws a r r' l taken tells = record { tells = tells; means = (all_made means leaves s t ws taken l).1; lists = refl }
