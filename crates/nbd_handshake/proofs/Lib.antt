mod Parts
mod Going
mod Answering
mod Turning
mod Opening
mod OneEnd
mod Having
