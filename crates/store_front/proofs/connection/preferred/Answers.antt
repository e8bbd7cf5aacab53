use Rattle.std.proofs.Common.{refl, inl, inr, arith}
use Rattle.store_front.proofs.connection.preferred.Goals as goal

pub returns-in-0-to-512 : goal.returns-in-0-to-512
returns-in-0-to-512 c = record { power = (9, refl); least = omega (arith); enough = omega (arith, c.in-0-to-512); first = inl refl }

pub returns-in-513-to-1024 : goal.returns-in-513-to-1024
returns-in-513-to-1024 c = record { power = (10, refl); least = omega (arith); enough = omega (arith, c.in-513-to-1024, c.requires); first = inr (omega (arith, c.in-513-to-1024)) }

pub returns-in-1025-to-2048 : goal.returns-in-1025-to-2048
returns-in-1025-to-2048 c = record { power = (11, refl); least = omega (arith); enough = omega (arith, c.in-1025-to-2048, c.requires); first = inr (omega (arith, c.in-1025-to-2048)) }

pub returns-in-2049-to-4096 : goal.returns-in-2049-to-4096
returns-in-2049-to-4096 c = record { power = (12, refl); least = omega (arith); enough = omega (arith, c.in-2049-to-4096, c.requires); first = inr (omega (arith, c.in-2049-to-4096)) }

pub returns-in-4097-to-8192 : goal.returns-in-4097-to-8192
returns-in-4097-to-8192 c = record { power = (13, refl); least = omega (arith); enough = omega (arith, c.in-4097-to-8192, c.requires); first = inr (omega (arith, c.in-4097-to-8192)) }

pub returns-in-8193-to-16384 : goal.returns-in-8193-to-16384
returns-in-8193-to-16384 c = record { power = (14, refl); least = omega (arith); enough = omega (arith, c.in-8193-to-16384, c.requires); first = inr (omega (arith, c.in-8193-to-16384)) }

pub returns-in-16385-to-32768 : goal.returns-in-16385-to-32768
returns-in-16385-to-32768 c = record { power = (15, refl); least = omega (arith); enough = omega (arith, c.in-16385-to-32768, c.requires); first = inr (omega (arith, c.in-16385-to-32768)) }

pub returns-in_default : goal.returns-in_default
returns-in_default c = record { power = (16, refl); least = omega (arith); enough = omega (arith, c.in_default, c.requires); first = inr (omega (arith, c.in_default)) }
