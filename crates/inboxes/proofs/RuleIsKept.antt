-- Each kind of step keeps the rule.
use Rattle.std.proofs.Common.{◌≡◌, ◌≢◌, ℕ, ◌+◌, ◌<◌, Bool, true, false, true≢false, cond, inl, inr, List, [], ◌∷◌, ◌++◌, map, length, set, Option, Some, None, IfSome, refl, sym, ap, subst, ◌∙◌, arith, append_assoc, append-nil}
use Rattle.std.proofs.lemmas.List.{map-append}
use Rattle.std.proofs.lemmas.List.Elements.{All-nil, All-push, All-same}
use Rattle.std.specs.Prelude.{nat_eq}
use mathlib.Core.Option.{some}
use lib.ListN.{get_elem?}
use Rattle.atomic_table.proofs.Lists.{at_set}
use Rattle.crossbeam_channel.specs.Fifo.{Pushes, Pops, Forks, Merges, Learns}
use Rattle.std.specs.declared.snapshot.Snapshot.{Snapshot}
use Rattle.inboxes.specs.declared.rule.Parcel.{Parcel}
use Rattle.inboxes.specs.declared.rule.Parcel.TheVariants.{Open, Said}
use Rattle.inboxes.specs.declared.rule.Role.{Role}
use Rattle.inboxes.specs.declared.rule.Role.TheVariants.{Opens, Opening, Sends, Takes, Tells, Spent}
use Rattle.inboxes.specs.declared.rule.Start.{Start}
use Rattle.inboxes.specs.declared.rule.Account.{Account}
use Rattle.inboxes.specs.declared.rule.View.{View}
use Rattle.inboxes.specs.Parcels.{words_of, has_ended, IsOrderly, start, number_of, IsTold, SettlesWith, newcomer, spent, opening, opening_of, taking, post_of, with_one_more, next_sender, account_of, with_account, said_more, heard_more, Says, Settles, Knows, FitsWord, IsOpen, Keeps, Hears}
use Rattle.inboxes.proofs.lemmas.SenderWords.{true_here, false_here, same_or_not, all_middle, words_append, words_push, words_push_apart, orderly_push, going_at, ended_whole}
use Rattle.inboxes.proofs.ViewLists.{one_at, set_one, at_end, set_of_set}

is_running : Role → Bool
is_running Opens = false
is_running Opening = false
is_running (Sends p) = true
is_running (Takes m) = true
is_running Tells = true
is_running Spent = true

-- what an account says stays where another sender says something, and is what the taker learns of it

module _ {T : Type 0} where
  told_push : (senders : ℕ) (log log' : List (ℕ × Option T)) (p : ℕ) → ((q : ℕ) → q ≢ p → words_of q log' ≡ words_of q log) → has_ended (words_of p log) ≡ false → (told : Option (Account T)) → IsTold senders log told → IsTold senders log' told
  told_push senders log log' p others going None is = tt
  told_push senders log log' p others going (Some account) is =
      elim (same_or_not account.from p) [
        | inl same ↦ absurd (true≢false (sym is.1 ∙ ap has_ended (is.2 ∙ ap (λ q. words_of q log) same) ∙ going))
        | inr apart ↦ (is.0, is.1, is.2 ∙ sym (others account.from apart))
      ]

  settles_with : (senders : ℕ) (got rest : List (ℕ × Option T)) → ((p : ℕ) → IsOrderly (words_of p (got ++ rest))) → (told : Option (Account T)) → IsTold senders (got ++ rest) told → SettlesWith senders got told
  settles_with senders got rest orderly None is = tt
  settles_with senders got rest orderly (Some account) is =
      let split = words_append account.from got rest in
      let none : has_ended (words_of account.from got) ≡ true → words_of account.from rest ≡ [] = λ ended. ended_whole (words_of account.from got) (words_of account.from rest) (subst IsOrderly split (orderly account.from)) ended in
      (is.0, λ ended. sym (is.2 ∙ split ∙ ap (λ l. words_of account.from got ++ l) (none ended) ∙ append-nil (words_of account.from got)))

module _ {T P : Type 0} where
  -- the front parcel, of those that wait
  front : (x : Parcel T P) (items : List (Parcel T P)) (rest : List (ℕ × Option T)) → x ∷ items ≡ map post_of rest → (h : ℕ × Option T) × (more : List (ℕ × Option T)) × (rest ≡ h ∷ more) × (x ≡ post_of h) × (items ≡ map post_of more)
  front x items [] is = absurd (cc)
  front x items (h ∷ more) is = (h, more, refl, cc, cc)

  -- what others know stays where a sender says something

  knows_push : (s : Start P) (got log log' : List (ℕ × Option T)) (made : ℕ) (seat : ℕ → ℕ) (taker id p : ℕ) → seat p ≡ id → ((q : ℕ) → q ≢ p → words_of q log' ≡ words_of q log) → has_ended (words_of p log) ≡ false
      → (j : ℕ) (u : View T P) → j ≢ id → (r : Role) → Knows s got log made seat taker j u r → Knows s got log' made seat taker j u r
  knows_push s got log log' made seat taker id p own others going j u apart Opens is = is
  knows_push s got log log' made seat taker id p own others going j u apart Opening is = is
  knows_push s got log log' made seat taker id p own others going j u apart (Sends q) is =
      let not_mine : q ≢ p = λ same. apart (sym is.3 ∙ ap seat same ∙ own) in
      (is.0, is.1, is.2, is.3, is.4 ∙ sym (others q not_mine))
  knows_push s got log log' made seat taker id p own others going j u apart (Takes m) is =
      (is.0, is.1, is.2, is.3, told_push s.senders log log' p others going u.told is.4)
  knows_push s got log log' made seat taker id p own others going j u apart Tells is =
      told_push s.senders log log' p others going u.told is
  knows_push s got log log' made seat taker id p own others going j u apart Spent is = tt

  -- what others know stays where the taker takes something, and all that was said stays

  knows_more : (s : Start P) (got got' log : List (ℕ × Option T)) (made : ℕ) (seat : ℕ → ℕ) (taker id : ℕ) → taker ≡ id → (j : ℕ) (u : View T P) → j ≢ id → (r : Role) → Knows s got log made seat taker j u r → Knows s got' log made seat taker j u r
  knows_more s got got' log made seat taker id own j u apart Opens is = is
  knows_more s got got' log made seat taker id own j u apart Opening is = is
  knows_more s got got' log made seat taker id own j u apart (Sends q) is = is
  knows_more s got got' log made seat taker id own j u apart (Takes m) is = absurd (apart (sym is.2 ∙ own))
  knows_more s got got' log made seat taker id own j u apart Tells is = is
  knows_more s got got' log made seat taker id own j u apart Spent is = tt

  -- what others know stays where a sender is made

  knows_made : (s : Start P) (got log : List (ℕ × Option T)) (made : ℕ) (seat seat' : ℕ → ℕ) (taker id : ℕ) → taker ≡ id → ((q : ℕ) → q < made → seat' q ≡ seat q)
      → (j : ℕ) (u : View T P) → j ≢ id → (r : Role) → Knows s got log made seat taker j u r → Knows s got log (made + 1) seat' taker j u r
  knows_made s got log made seat seat' taker id own same j u apart Opens is = is
  knows_made s got log made seat seat' taker id own same j u apart Opening is = is
  knows_made s got log made seat seat' taker id own same j u apart (Sends q) is =
      (is.0, omega (arith, is.1), is.2, same q is.1 ∙ is.3, is.4)
  knows_made s got log made seat seat' taker id own same j u apart (Takes m) is = absurd (apart (sym is.2 ∙ own))
  knows_made s got log made seat seat' taker id own same j u apart Tells is = is
  knows_made s got log made seat seat' taker id own same j u apart Spent is = tt

module _ {T P : Type 0} (fits : P → T → Type 0) where
  -- once a pass has another role, the inbox is open
  opened : (items : List (Parcel T P)) (views : List (View T P)) (id : ℕ) (v : View T P) → Keeps fits items views → get_elem? views id ≡ some v → is_running v.role ≡ true → (s : Start P) × IsOpen fits s items views
  unfolding is_running
  opened items views id v (inl (inl new)) at runs =
      absurd (true≢false (sym runs ∙ ap (λ (u : View T P). is_running u.role) (sym (one_at newcomer v views id new.1 at).1)))
  opened items views id v (inl (inr o)) at runs =
      absurd (true≢false (sym runs ∙ ap (λ (u : View T P). is_running u.role) (sym (one_at (opening (start o.place.value o.senders)) v views id o.alone at).1)))
  opened items views id v (inr others) at runs = others

  -- the parcel that opens the inbox

  pub sends_open : (n id : ℕ) (place : Snapshot P) (senders : ℕ) → Pushes (Keeps fits) n id newcomer (Open place senders) (λ w. w ≡ opening_of (Open place senders))
  unfolding is_running
  sends_open n id place senders items views room (inl (inl new)) at =
      let w : View T P = opening (start place.value senders) in
      let here = one_at newcomer newcomer views id new.1 at in (
        w,
        inl (inr (record { place = place; senders = senders; parcel = ap (λ l. l ++ Open place senders ∷ []) new.0; alone = set_one newcomer w views id new.1 here.0 })),
        refl,
      )
  sends_open n id place senders items views room (inl (inr o)) at =
      let here = one_at (opening (start o.place.value o.senders)) newcomer views id o.alone at in
      let P' : Role → Type 0 = λ r. r ≡ Opens in
      let is : Opening ≡ Opens = ap (λ (u : View T P). u.role) here.1 in
      absurd (cc)
  sends_open n id place senders items views room (inr others) at = absurd (others.1.each id newcomer at)

  pub takes_open : (id : ℕ) (s : Start P) → Pops (Keeps fits) id (opening s) (λ x w. w ≡ taking (Some s) 0 [])
  takes_open id s x items views (inl (inl new)) at = let is = new.0 in absurd (cc)
  takes_open id s x items views (inl (inr o)) at =
      let here = one_at (opening (start o.place.value o.senders)) (opening s) views id o.alone at in
      let w : View T P = taking (Some s) 0 [] in
      let alone = set_one (opening (start o.place.value o.senders)) w views id o.alone here.0 in
      let fresh : IsOpen fits s items (set views id w) = record {
        got = [];
        rest = [];
        made = 0;
        seat = λ p. 0;
        taker = 0;
        waits = let is = o.parcel in cc;
        fit = All-nil (FitsWord fits s);
        orderly = λ p. tt;
        unmade = λ p _. refl;
        each = λ j u e.
            let there = one_at w u (set views id w) j alone e in
            subst (λ (y : View T P). Knows s [] [] 0 (λ p. 0) 0 j y y.role) there.1 (refl, refl, sym there.0, refl, tt);
      } in (w, inr (s, fresh), refl)
  takes_open id s x items views (inr others) at = absurd (others.1.each id (opening s) at)

  -- a sender says something

  pub says : (n id : ℕ) (v : View T P) (p : ℕ) (word : Option T) (s : Start P) → v.role ≡ Sends p → v.start ≡ Some s → has_ended v.said ≡ false → IfSome word (fits s.place) → Pushes (Keeps fits) n id v (Said p word) (Says v (Said p word))
  unfolding is_running
  says n id v p word s0 role starts going fit items views room kept at =
      let kept_open = opened items views id v kept at (ap is_running role) in
      let s = kept_open.0 in
      let o = kept_open.1 in
      let h : ℕ × Option T = (p, word) in
      let log = o.got ++ o.rest in
      let log' = o.got ++ (o.rest ++ h ∷ []) in
      let longer : log' ≡ log ++ h ∷ [] = sym (append_assoc o.got o.rest (h ∷ [])) in
      let mine = subst (Knows s o.got log o.made o.seat o.taker id v) role (o.each id v at) in
      let same : s0 ≡ s = let is : Some s0 ≡ Some s = sym starts ∙ mine.0 in cc in
      let open_yet : has_ended (words_of p log) ≡ false = ap has_ended (sym mine.4) ∙ going in
      let own : words_of p log' ≡ words_of p log ++ word ∷ [] = ap (words_of p) longer ∙ words_push p log word in
      let others : (q : ℕ) → q ≢ p → words_of q log' ≡ words_of q log = λ q apart. ap (words_of q) longer ∙ words_push_apart q p log word (λ e. apart (sym e)) in
      let w = said_more v word in (
        w,
        inr (
          s,
          record {
            got = o.got;
            rest = o.rest ++ h ∷ [];
            made = o.made;
            seat = o.seat;
            taker = o.taker;
            waits = ap (λ l. l ++ Said p word ∷ []) o.waits ∙ sym (map-append post_of o.rest (h ∷ []));
            fit = All-same (FitsWord fits s) log' (log ++ h ∷ []) longer (All-push (FitsWord fits s) log h o.fit (mine.2, subst (λ (s : Start P). IfSome word (fits s.place)) same fit));
            orderly = λ q.
                elim (same_or_not q p) [
                  | inl is ↦ subst IsOrderly (sym own ∙ ap (λ q. words_of q log') (sym is)) (orderly_push (words_of p log) word open_yet)
                  | inr apart ↦ subst IsOrderly (sym (others q apart)) (o.orderly q)
                ];
            unmade = λ q most. others q (λ is. absurd (omega (arith, mine.1, most, is))) ∙ o.unmade q most;
            each = set_of_set (λ j u. Knows s o.got log' o.made o.seat o.taker j u u.role) views id w
                (subst (Knows s o.got log' o.made o.seat o.taker id w) (sym role) (mine.0, mine.1, mine.2, mine.3, ap (λ l. l ++ word ∷ []) mine.4 ∙ sym own))
                (λ j u apart e. knows_push s o.got log log' o.made o.seat o.taker id p mine.3 others open_yet j u apart u.role (o.each j u e));
          },
        ),
        refl,
      )

  -- the taker takes something

  pub hears : (id : ℕ) (v : View T P) (m : ℕ) → v.role ≡ Takes m → Pops (Keeps fits) id v (Hears fits v)
  unfolding is_running
  hears id v m role x items views kept at =
      let kept_open = opened (x ∷ items) views id v kept at (ap is_running role) in
      let s = kept_open.0 in
      let o = kept_open.1 in
      let next = front x items o.rest o.waits in
      let h = next.0 in
      let more = next.1 in
      let log = o.got ++ o.rest in
      let got' = o.got ++ h ∷ [] in
      let log' = got' ++ more in
      let around : log ≡ o.got ++ (h ∷ more) = ap (λ l. o.got ++ l) next.2 in
      let same : log ≡ log' = around ∙ sym (append_assoc o.got (h ∷ []) more) in
      let mine = subst (Knows s o.got log o.made o.seat o.taker id v) role (o.each id v at) in
      let w = heard_more v (h ∷ []) in
      let open_yet : has_ended (words_of h.0 o.got) ≡ false = going_at h.0 o.got h.1 more (subst (λ l. IsOrderly (words_of h.0 l)) around (o.orderly h.0)) in
      let going : has_ended (words_of h.0 v.heard) ≡ false = ap (λ l. has_ended (words_of h.0 l)) mine.3 ∙ open_yet in
      let fit : FitsWord fits s h = all_middle (FitsWord fits s) o.got h more (All-same (FitsWord fits s) (o.got ++ (h ∷ more)) log (sym around) o.fit) in (
        w,
        inr (
          s,
          record {
            got = got';
            rest = more;
            made = o.made;
            seat = o.seat;
            taker = o.taker;
            waits = next.4;
            fit = All-same (FitsWord fits s) log' log (sym same) o.fit;
            orderly = λ q. subst IsOrderly (ap (words_of q) same) (o.orderly q);
            unmade = λ q most. ap (words_of q) (sym same) ∙ o.unmade q most;
            each = set_of_set (λ j u. Knows s got' log' o.made o.seat o.taker j u u.role) views id w
                (subst (Knows s got' log' o.made o.seat o.taker id w) (sym role) (mine.0, mine.1, mine.2, ap (λ l. l ++ h ∷ []) mine.3, subst (λ l. IsTold s.senders l v.told) same mine.4))
                (λ j u apart e. knows_more s o.got got' log' o.made o.seat o.taker id mine.2 j u apart u.role (subst (λ l. Knows s o.got l o.made o.seat o.taker j u u.role) same (o.each j u e)));
          },
        ),
        subst (λ x. Hears fits v x w) (sym next.3) (refl, going, subst (λ o. IfSome o (λ s. FitsWord fits s h)) (sym mine.0) fit),
      )

  -- a sender is made

  pub makes : (id : ℕ) (v : View T P) (m : ℕ) (s : Start P) → v.role ≡ Takes m → v.start ≡ Some s → m < s.senders → Forks (Keeps fits) id v (with_one_more v) (next_sender v)
  unfolding is_running
  makes id v m s0 role starts below items views kept at =
      let kept_open = opened items views id v kept at (ap is_running role) in
      let s = kept_open.0 in
      let o = kept_open.1 in
      let log = o.got ++ o.rest in
      let mine = subst (Knows s o.got log o.made o.seat o.taker id v) role (o.each id v at) in
      let same : s0 ≡ s = let is : Some s0 ≡ Some s = sym starts ∙ mine.0 in cc in
      let number : number_of v.role ≡ m = ap number_of role in
      let left = with_one_more v in
      let right = next_sender v in
      let changed = set views id left in
      let seat' : ℕ → ℕ = λ q. cond (nat_eq q o.made) (length changed) (o.seat q) in
      let older : (q : ℕ) → q < o.made → seat' q ≡ o.seat q = λ q less. ap (λ b. cond b (length changed) (o.seat q)) (false_here q o.made (λ is. absurd (omega arith))) in
      let newest : (q : ℕ) → q ≡ o.made → seat' q ≡ length changed = λ q is. ap (λ b. cond b (length changed) (o.seat q)) (ap (λ k. nat_eq k o.made) is ∙ true_here o.made) in
      let K : ℕ → View T P → Type 0 = λ j u. Knows s o.got log (o.made + 1) seat' o.taker j u u.role in
      let among : (j : ℕ) (u : View T P) → get_elem? changed j ≡ some u → K j u = set_of_set K views id left (mine.0, ap (λ k. k + 1) (number ∙ mine.1), mine.2, mine.3, mine.4) (λ j u apart e. knows_made s o.got log o.made o.seat seat' o.taker id mine.2 older j u apart u.role (o.each j u e)) in
      let senders : s0.senders ≡ s.senders = ap (λ (s : Start P). s.senders) same in
      let new : K (length changed) right = (mine.0, omega (arith, number, mine.1), omega (arith, number, below, senders), newest (number_of v.role) (number ∙ mine.1), sym (o.unmade (number_of v.role) (omega (arith, number, mine.1)))) in
      inr (
        s,
        record {
          got = o.got;
          rest = o.rest;
          made = o.made + 1;
          seat = seat';
          taker = o.taker;
          waits = o.waits;
          fit = o.fit;
          orderly = o.orderly;
          unmade = λ q most. o.unmade q (omega arith);
          each = λ j u e.
              elim (at_end changed right u j e) [
                | inl there ↦ among j u there
                | inr last ↦ subst (λ (x : ℕ × View T P). K x.0 x.1) (λ k. (sym last.0 k, last.1 k)) new
              ];
        },
      )

  -- an account of a sender that has ended, and who takes it in

  pub tells : (id : ℕ) (v : View T P) (p : ℕ) → v.role ≡ Sends p → has_ended v.said ≡ true → Forks (Keeps fits) id v v (account_of v)
  unfolding is_running
  tells id v p role ended items views kept at =
      let kept_open = opened items views id v kept at (ap is_running role) in
      let s = kept_open.0 in
      let o = kept_open.1 in
      let log = o.got ++ o.rest in
      let mine = subst (Knows s o.got log o.made o.seat o.taker id v) role (o.each id v at) in
      let K : ℕ → View T P → Type 0 = λ j u. Knows s o.got log o.made o.seat o.taker j u u.role in
      inr (
        s,
        record {
          got = o.got;
          rest = o.rest;
          made = o.made;
          seat = o.seat;
          taker = o.taker;
          waits = o.waits;
          fit = o.fit;
          orderly = o.orderly;
          unmade = o.unmade;
          each = λ j u e.
              elim (at_end (set views id v) (account_of v) u j e) [
                | inl there ↦ set_of_set K views id v (o.each id v at) (λ j u apart e. o.each j u e) j u there
                | inr last ↦ subst (K j) last.1 (subst (λ q. q < s.senders) (sym (ap number_of role)) mine.2, ended, mine.4 ∙ ap (λ q. words_of q log) (sym (ap number_of role)))
              ];
        },
      )

  pub listens : (id : ℕ) (v : View T P) (m other : ℕ) (u : View T P) → v.role ≡ Takes m → u.role ≡ Tells → Merges (Keeps fits) id v other u (with_account v u) spent
  unfolding is_running
  listens id v m other u role tells items views kept at apart there =
      let kept_open = opened items views id v kept at (ap is_running role) in
      let s = kept_open.0 in
      let o = kept_open.1 in
      let log = o.got ++ o.rest in
      let both = with_account v u in
      let mine = subst (Knows s o.got log o.made o.seat o.taker id v) role (o.each id v at) in
      let K : ℕ → View T P → Type 0 = λ j u. Knows s o.got log o.made o.seat o.taker j u u.role in
      let was : get_elem? views other ≡ some u = elim (at_set views id other both u there) [ inl here ↦ absurd (apart here.0) | inr there ↦ there.1 ] in
      let account : IsTold s.senders log u.told = subst (Knows s o.got log o.made o.seat o.taker other u) tells (o.each other u was) in
      let among = set_of_set K views id both (subst (Knows s o.got log o.made o.seat o.taker id both) (sym role) (mine.0, mine.1, mine.2, mine.3, account)) (λ j u apart e. o.each j u e) in
      inr (
        s,
        record {
          got = o.got;
          rest = o.rest;
          made = o.made;
          seat = o.seat;
          taker = o.taker;
          waits = o.waits;
          fit = o.fit;
          orderly = o.orderly;
          unmade = o.unmade;
          each = set_of_set K (set views id both) other spent tt (λ j u apart e. among j u e);
        },
      )

  pub learns : (id : ℕ) (v : View T P) (m : ℕ) → v.role ≡ Takes m → Learns (Keeps fits) id v (λ items. Settles v)
  unfolding is_running
  learns id v m role items views kept at =
      let kept_open = opened items views id v kept at (ap is_running role) in
      let o = kept_open.1 in
      let mine = subst (Knows kept_open.0 o.got (o.got ++ o.rest) o.made o.seat o.taker id v) role (o.each id v at) in
      let s = kept_open.0 in
      let told = subst (λ heard. SettlesWith s.senders heard v.told) (sym mine.3) (settles_with s.senders o.got o.rest o.orderly v.told mine.4) in
      subst (λ o. IfSome o (λ s. SettlesWith s.senders v.heard v.told)) (sym mine.0) told
