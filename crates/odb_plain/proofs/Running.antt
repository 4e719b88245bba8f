-- A transaction run alone, one statement after another.
use Rattle.std.proofs.Common.{◌≡◌, ℕ, ◌+◌, ◌<◌, List, [], ◌∷◌, ◌++◌, length, drop, get_or, ap, sym, ◌∙◌, append_assoc}
use Rattle.odb_model.specs.declared.write.Write.{Write}
use Rattle.odb_model.specs.declared.reply.Reply.{Reply}
use Rattle.odb_model.specs.declared.statement.Statement.{Statement}
use Rattle.odb_model.specs.State.{State}
use Rattle.odb_model.specs.Transaction.{meaning_over, alone_replies, alone_writes}
use Rattle.odb_plain.proofs.Items.{drop-item}

module _ (s : State) (format : ℕ) (sts : List Statement) (i : ℕ) (st : Statement) (within : i < length sts) (is : st ≡ get_or sts i st)
    (ws writes : List Write) (wrote : writes ≡ (meaning_over st s ws format).writes) where
  -- the replies with one more
  pub replies-more : (replies all : List Reply) (reply : Reply) → reply ≡ (meaning_over st s ws format).reply
      → replies ++ alone_replies s ws (drop i sts) format ≡ all → (replies ++ reply ∷ []) ++ alone_replies s (ws ++ writes) (drop (i + 1) sts) format ≡ all
  replies-more replies all reply told so =
      ap (λ (l : List Write). (replies ++ reply ∷ []) ++ alone_replies s (ws ++ l) (drop (i + 1) sts) format) wrote
      ∙ append_assoc replies (reply ∷ []) (alone_replies s (ws ++ (meaning_over st s ws format).writes) (drop (i + 1) sts) format)
      ∙ ap (λ (r : Reply). replies ++ r ∷ alone_replies s (ws ++ (meaning_over st s ws format).writes) (drop (i + 1) sts) format) told
      ∙ ap (λ (l : List Statement). replies ++ alone_replies s ws l format) (sym (drop-item sts i st within is)) ∙ so

  -- and the writes
  pub writes-more : (all : List Write) → alone_writes s ws (drop i sts) format ≡ all → alone_writes s (ws ++ writes) (drop (i + 1) sts) format ≡ all
  writes-more all so =
      ap (λ (l : List Write). alone_writes s (ws ++ l) (drop (i + 1) sts) format) wrote
      ∙ ap (λ (l : List Statement). alone_writes s ws l format) (sym (drop-item sts i st within is)) ∙ so
