-- What a lying client has still to send, after it sent one message more.
use Rattle.std.proofs.Common.{◌≡◌, ℕ, List, [], ◌∷◌, ◌++◌, All, Option, sym, ap, subst, ◌∙◌, append_assoc}
use Rattle.std.proofs.lemmas.List.Elements.{filter_map-append, All-from_recursion, recursion_from_All}
use Rattle.protocol.specs.Messages.{Message}
use Rattle.journals.specs.declared.desk.Way.TheVariants.{Call as ByCall}
use Rattle.journals.specs.declared.desk.DeskAct.TheVariants.{Call}
use Rattle.journals.specs.declared.desk.DeskEntry.{DeskEntry}
use Rattle.client_desks.specs.Desks.{DeskView, desk_entry}
use Rattle.client_endpoints.specs.Endpoint.{HasAsked, HasSent}
use Rattle.plan_words.specs.declared.plan.Plan.{Plan}
use Rattle.plan_followed.specs.Clients.{asked, all_asked}
use Rattle.client_duties.specs.Tasks.{IsSendable}
use Rattle.client_duties.specs.declared.liar.Liar.{Liar}
use Rattle.client_duties.specs.ClientDuty.{HasMail}

one_sent : (es : List DeskEntry) (n : ℕ) (ask : Message) (reply : Option Message) (rest : List Message) → all_asked (es ++ desk_entry n (Call ByCall ask reply) ∷ []) ++ rest ≡ all_asked es ++ ask ∷ rest
one_sent es n ask reply rest =
    ap (λ (ms : List Message). ms ++ rest) (filter_map-append (λ (e : DeskEntry). asked e.act) es (desk_entry n (Call ByCall ask reply) ∷ []))
    ∙ append_assoc (all_asked es) (ask ∷ []) rest

pub sent_more : (w w' : Liar) (d d' : DeskView) (ask : Message) (rest : List Message) → w'.plan.value ≡ w.plan.value → w'.client ≡ w.client → w.mail.items ≡ ask ∷ rest → w'.mail.items ≡ rest → HasMail w d → HasSent d ask d' → HasMail w' d'
sent_more w w' d d' ask rest plan client was now h sent = subst (HasMail w') (sym a.desk) (record {
  config = h.config ∙ ap (λ (p : Plan). p.config) (sym plan);
  id = h.id ∙ sym client;
  lying = h.lying;
  sent = ap (λ (ms : List Message). all_asked (d.entries ++ e ∷ []) ++ ms) now ∙ one_sent d.entries a.number ask sent.0 rest ∙ ap (λ (ms : List Message). all_asked d.entries ++ ms) (sym was) ∙ h.sent
      ∙ ap (λ (c : ℕ). Rattle.plan_followed.specs.Asked.messages w.plan.value.config w.plan.value.rules c) (sym client)
      ∙ ap (λ (p : Plan). Rattle.plan_followed.specs.Asked.messages p.config p.rules w'.client) (sym plan);
  each = subst (λ (p : Plan). All (IsSendable p.config w'.client) w'.mail.items) (sym plan) (subst (λ (c : ℕ). All (IsSendable w.plan.value.config c) w'.mail.items) (sym client)
      (subst (All (IsSendable w.plan.value.config w.client)) (sym now) tail));
})
  where
    a : HasAsked d ByCall ask sent.0 d'
    a = sent.1

    e : DeskEntry
    e = desk_entry a.number (Call ByCall ask sent.0)

    tail : All (IsSendable w.plan.value.config w.client) rest
    tail = All-from_recursion (IsSendable w.plan.value.config w.client) rest (recursion_from_All (IsSendable w.plan.value.config w.client) (ask ∷ rest) (subst (All (IsSendable w.plan.value.config w.client)) was h.each)).1
