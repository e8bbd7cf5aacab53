-- What the messages of a phase ask.
use Rattle.std.proofs.Common.{◌≡◌, ℕ, ◌<◌, ap}
use Rattle.std.specs.declared.option.Option.TheVariants.{Some}
use Rattle.std.specs.List.{Contains}
use Rattle.protocol.specs.Messages.{Ask, Reply, Message}
use Rattle.wire_forms.specs.declared.Body.TheVariants.{Ask as Asks, Answer as Answers}
use Rattle.protocol.specs.Setting.{Setting}
use Rattle.protocol.specs.Operations.{Task, outstanding, mail, request_of}
use Rattle.protocol.proofs.lemmas.Lists.{Contains-collect}

module _ (s : Setting) (c : ℕ) (task : Task) where
  pub in_mail : (m : Message) → Contains (mail s c task) m → (i : ℕ) × (i < s.n) × (m ≡ outstanding s c task i)
  in_mail m k = let r = Contains-collect s.n (λ i. Some (outstanding s c task i)) m k in (r.0, r.1, (let q = r.2 in cc))

  pub mail_asks : (m : Message) (i : ℕ) (ask : Ask) → m ≡ outstanding s c task i → m.body ≡ Asks ask → (ask.block ≡ task.block) × (ask.request ≡ request_of s task.stage m.node)
  mail_asks m i ask e f =
      let g : m.body ≡ Asks (record { block = task.block; request = request_of s task.stage i }) = ap (λ (x : Message). x.body) e in
      let a : ask ≡ record { block = task.block; request = request_of s task.stage i } = cc in
      let n : m.node ≡ i = ap (λ (x : Message). x.node) e in
      (ap (λ (x : Ask). x.block) a, rw n (ap (λ (x : Ask). x.request) a))

  pub mail_answers : (m : Message) (i : ℕ) (reply : Reply) → m ≡ outstanding s c task i → m.body ≡ Answers reply → ⊥
  mail_answers m i reply e f =
      let g : m.body ≡ Asks (record { block = task.block; request = request_of s task.stage i }) = ap (λ (x : Message). x.body) e in cc
